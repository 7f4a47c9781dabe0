use Rattle.std.proofs.Common.{◌≡◌}
use Rattle.log_tests.proofs.growth.record_ten.Given as goal

abbrev pub invariant-loop-number : goal.invariant-loop-number
invariant-loop-number l = l.seat.desk ≡ l.desk.desk
