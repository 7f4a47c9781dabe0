use Rattle.std.proofs.Common.{◌≡◌, ℕ, ◌+◌, ◌<◌, List, ◌++◌, length, get_or, drop, sym, ap, ◌∙◌, arith}
use Rattle.explain_numbers.specs.Numbered.{is_below}
use Rattle.explain_numbers.proofs.Walking.{no_record, numbers_of, number_taken, number_passed}
use Rattle.explain_numbers.proofs.numbered.numbers_below.Goals as goal
use Rattle.explain_numbers.proofs.numbered.numbers_below.Goals.{then-is_below+in_ok-push, else-is_below}

pub loop-place-preserved : goal.loop-place-preserved
loop-place-preserved c =
    let rs = c.args.records.now.records in
    let k = c.loop-place.place in
    let holds = is_below c.args.bank c.args.number in
    let found = c.loop-place.numbers.items in
    let lt : k < length rs = omega (arith, c.loop-place-test.true, c.len-place-end.ensures) in
    let asked : c.is_below.result ≡ holds (get_or rs k no_record) = c.is_below.ensures no_record in
    elim c.if-is_below.branch [
      | then-is_below+in_ok-push w ↦
          ap (λ (ns : List ℕ). ns ++ numbers_of holds (drop (k + 1) rs)) (rw w.numbers-is w.in_ok-push.ensures.items)
          ∙ number_taken holds rs k lt found _ w.number.result (sym asked ∙ w.if-is_below.true)
          (w.number.ensures no_record) c.loop-place.invariant
      | else-is_below w ↦
          rw w.numbers-is (number_passed holds rs k lt found _ (sym asked ∙ w.if-is_below.false) c.loop-place.invariant)
    ]
