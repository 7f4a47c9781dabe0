use Rattle.std.proofs.Common.{◌≡◌, ℕ, ◌+◌, ◌<◌, List, ◌++◌, length, get_or, drop, sym, ap, ◌∙◌, arith}
use Rattle.explain_history.specs.Places.{places_from, is_numbered}
use Rattle.explain_numbers.proofs.Walking.{no_record, place_taken, place_passed}
use Rattle.explain_numbers.proofs.numbered.places_of_number.Goals as goal
use Rattle.explain_numbers.proofs.numbered.places_of_number.Goals.{then-is_numbered+in_ok-push, else-is_numbered}

pub loop-place-preserved : goal.loop-place-preserved
loop-place-preserved c =
    let rs = c.args.records.now.records in
    let k = c.loop-place.place in
    let holds = is_numbered c.args.bank c.args.number in
    let found = c.loop-place.places.items in
    let lt : k < length rs = omega (arith, c.loop-place-test.true, c.len-place-end.ensures) in
    let asked : c.is_numbered.result ≡ holds (get_or rs k no_record) = c.is_numbered.ensures no_record in
    elim c.if-is_numbered.branch [
      | then-is_numbered+in_ok-push w ↦
          ap (λ (ps : List ℕ). ps ++ places_from holds (k + 1) (drop (k + 1) rs))
          (rw w.places-is w.in_ok-push.ensures.items)
          ∙ place_taken holds rs k lt found _ (sym asked ∙ w.if-is_numbered.true) c.loop-place.invariant
      | else-is_numbered w ↦
          rw w.places-is
          (ap (λ (ps : List ℕ). found ++ ps) (sym (place_passed holds rs k lt (sym asked ∙ w.if-is_numbered.false)))
          ∙ c.loop-place.invariant)
    ]
