use Rattle.std.proofs.Common.{List, ℕ, [], ◌∷◌, ◌++◌, sym, ap, subst, ◌∙◌}
use Rattle.trace_early.specs.Kept.{KeepsOn}
use Rattle.trace_early.proofs.Keeping.{keeps_on_with_one_more}
use Rattle.trace_early.proofs.chunks.open.Goals as goal

pub returns-clause-kept : goal.returns-clause-kept
returns-clause-kept c =
    let chunks = c.args.chunks.now.items in
    subst (λ (next : List (List ℕ × ℕ)). KeepsOn chunks next)
    (sym (c.in_ok-push.ensures.items ∙ ap (λ (chunk : List ℕ × ℕ). chunks ++ chunk ∷ []) c.in_ok-chunk.ensures))
    (keeps_on_with_one_more chunks)
