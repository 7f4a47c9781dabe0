use Rattle.std.proofs.Common.{◌≡◌}
use Rattle.recorder_demo.proofs.recording.next_event.Given as goal

abbrev pub invariant-turns : goal.invariant-turns
invariant-turns g l = record {
  own : l.seat.desk ≡ l.recording.desk.desk;
  log : l.seat.log ≡ l.fn.seat.log;
}
