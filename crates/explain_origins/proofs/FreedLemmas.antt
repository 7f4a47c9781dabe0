-- The last record that ended something, after one more record.
use Rattle.std.proofs.Common.{◌≡◌, ℕ, List, [], ◌∷◌, Option, Some, sym, ap, ◌∙◌}
use Rattle.std.specs.Prelude.{slice_get}
use Rattle.lf_rules.specs.declared.event.Record.{Record}
use Rattle.lf_rules.specs.declared.shape.Shape.{Shape}
use Rattle.explain_origins.specs.declared.parts.StatePart.{StatePart}
use Rattle.explain_origins.specs.declared.standing.Begun.{Begun}
use Rattle.explain_origins.specs.declared.standing.Origin.{Origin}
use Rattle.explain_origins.specs.Freed.{origins_with, end_after, last_end}
use Rattle.explain_origins.specs.Origins.{Step, steps, origin_at, ended_at}
use Rattle.explain_origins.specs.Requests.{Queues}
use Rattle.explain_origins.proofs.Steps.{step_of, queues_then, steps_some}
use Rattle.explain_origins.proofs.ToCome.{kept_then}

-- what is told after a record that ends this
abbrev pub end_then : StatePart → Step → List Begun → List Origin → List Origin
end_then part s kept last = end_after last (origin_at s) (origins_with (ended_at part s) kept)

pub end_step : (shape : Shape) (part : StatePart) (queues after : Queues) (rs : List Record) (place : ℕ) (r : Record)
    (places : List (Option ℕ)) (kept next : List Begun) (last now all : List Origin)
    → slice_get rs place ≡ Some r
    → after ≡ queues_then shape queues place r
    → next ≡ kept_then shape part (step_of queues place r) kept
    → now ≡ end_then part (step_of queues place r) kept last
    → last_end shape part kept last (steps shape queues rs (Some place ∷ places)) ≡ all
    → last_end shape part next now (steps shape after rs places) ≡ all
end_step shape part queues after rs place r places kept next last now all here waits is last_is so_far =
    let s = step_of queues place r in
    let later = steps shape (queues_then shape queues place r) rs places in
    ap (λ (qs : Queues). last_end shape part next now (steps shape qs rs places)) waits
    ∙ ap (λ (bs : List Begun). last_end shape part bs now later) is
    ∙ ap (λ (os : List Origin). last_end shape part (kept_then shape part s kept) os later) last_is
    ∙ ap (λ (ss : List Step). last_end shape part kept last ss)
    (sym (steps_some shape queues rs place r places here))
    ∙ so_far

pub end_none : (shape : Shape) (part : StatePart) (queues : Queues) (rs : List Record) (places : List (Option ℕ))
    (kept : List Begun) (last all : List Origin)
    → places ≡ [] → last_end shape part kept last (steps shape queues rs places) ≡ all → last ≡ all
end_none shape part queues rs places kept last all none so_far =
    ap (λ (ps : List (Option ℕ)). last_end shape part kept last (steps shape queues rs ps)) (sym none) ∙ so_far
