use Rattle.std.proofs.Common.{ℕ, ◌<◌}
use Rattle.lf_recorder.specs.Desk.{HasSeat}
use Rattle.lf_recorder.proofs.desk.first_missing.Given as goal

abbrev pub invariant-loop-log : goal.invariant-loop-log
invariant-loop-log l = (log : ℕ) → log < l.log → HasSeat l.seats.items log
