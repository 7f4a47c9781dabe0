use Rattle.std.proofs.Common.{ℕ, ◌+◌, List, [], ◌∷◌, ◌++◌, refl, sym, ap, ◌∙◌}
use Rattle.lf_rules.proofs.Bytes.{range_more}
use Rattle.explain_replay.proofs.addresses.consecutive.Goals as goal

pub loop-place-preserved : goal.loop-place-preserved
loop-place-preserved c =
    let first = c.args.first in
    let i = c.loop-place.place in
    c.in_ok-push.ensures.items ∙ ap (λ (xs : List ℕ). xs ++ (first + i) ∷ []) c.loop-place.invariant
    ∙ sym (range_more first i (first + i) refl)
