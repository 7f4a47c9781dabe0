use Rattle.std.proofs.Common.{Some, sym, ap, ◌∙◌, ◌++◌, ◌∷◌, [], List, Option, ℕ, arith}
use Rattle.std.proofs.lemmas.List.FromFn.{map-range_with_len_more}
use Rattle.explain_why.proofs.not_complete.all_places.Goals as goal

pub loop-place-preserved : goal.loop-place-preserved
loop-place-preserved c =
    c.in_ok-push.ensures.items
    ∙ ap (λ (ps : List (Option ℕ)). ps ++ Some c.loop-place.place ∷ []) c.loop-place.invariant
    ∙ sym (map-range_with_len_more Some 0 c.loop-place.place c.loop-place.place (omega arith))
