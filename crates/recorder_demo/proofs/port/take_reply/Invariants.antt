use Rattle.std.proofs.Common.{◌≡◌, ◌+◌}
use Rattle.recorder_demo.specs.Threads.{Counts}
use Rattle.recorder_demo.proofs.port.take_reply.Given as goal

abbrev pub invariant-loop-bank : goal.invariant-loop-bank
invariant-loop-bank g l = record {
  own : l.seat.desk ≡ l.recording.desk.desk;
  counts : Counts l.recording.places.shape l.port l.seat;
  none : l.port.issued + l.port.replied ≡ l.fn.port.issued + l.fn.port.replied;
}
