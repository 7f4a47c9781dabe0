use Rattle.std.proofs.Common.{◌≡◌}
use Rattle.log_tests.proofs.reordering.put.Given as goal

abbrev pub invariant-loop-item : goal.invariant-loop-item
invariant-loop-item l = l.order.bank ≡ 0
