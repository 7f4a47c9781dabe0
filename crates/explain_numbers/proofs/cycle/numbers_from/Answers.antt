use Rattle.std.proofs.Common.{◌≡◌, ℕ, ◌+◌, ◌<◌, List, ◌++◌, length, get_or, drop, sym, ap, ◌∙◌, arith}
use Rattle.explain_numbers.specs.Cycle.{stands_in}
use Rattle.explain_numbers.proofs.Walking.{no_record, numbers_of, number_taken, number_passed}
use Rattle.explain_numbers.proofs.cycle.numbers_from.Goals as goal
use Rattle.explain_numbers.proofs.cycle.numbers_from.Goals.{then-stands_in+in_ok-push, else-stands_in}

pub loop-place-preserved : goal.loop-place-preserved
loop-place-preserved c =
    let rs = c.args.records.now.records in
    let k = c.loop-place.place in
    let holds = stands_in c.args.log c.args.bank in
    let found = c.loop-place.numbers.items in
    let lt : k < length rs = omega (arith, c.loop-place-test.true, c.len-place-end.ensures) in
    let asked : c.stands_in.result ≡ holds (get_or rs k no_record) = c.stands_in.ensures no_record in
    elim c.if-stands_in.branch [
      | then-stands_in+in_ok-push w ↦
          ap (λ (ns : List ℕ). ns ++ numbers_of holds (drop (k + 1) rs)) (rw w.numbers-is w.in_ok-push.ensures.items)
          ∙ number_taken holds rs k lt found _ w.number.result (sym asked ∙ w.if-stands_in.true)
          (w.number.ensures no_record) c.loop-place.invariant
      | else-stands_in w ↦
          rw w.numbers-is
          (number_passed holds rs k lt found _ (sym asked ∙ w.if-stands_in.false) c.loop-place.invariant)
    ]
