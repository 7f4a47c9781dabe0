use Rattle.std.proofs.Common.{◌≡◌}
use Rattle.recorder_demo.proofs.recording.run_bank.Given as goal

abbrev pub invariant-events : goal.invariant-events
invariant-events g l = record {
  own : l.seat.desk ≡ l.recording.desk.desk;
  log : l.seat.log ≡ l.fn.seat.log;
}
