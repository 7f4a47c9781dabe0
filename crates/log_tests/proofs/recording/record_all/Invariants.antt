use Rattle.std.proofs.Common.{◌≡◌}
use Rattle.log_tests.proofs.recording.record_all.Given as goal

abbrev pub invariant-loop-i : goal.invariant-loop-i
invariant-loop-i l = l.seat.desk ≡ l.desk.desk
