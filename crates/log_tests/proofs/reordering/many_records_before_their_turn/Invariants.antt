use Rattle.std.proofs.Common.{◌≡◌}
use Rattle.log_tests.proofs.reordering.many_records_before_their_turn.Given as goal

abbrev pub invariant-loop-number : goal.invariant-loop-number
invariant-loop-number g l = l.order.bank ≡ 0
