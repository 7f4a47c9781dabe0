use Rattle.std.proofs.Common.{◌≡◌, ◌+◌, ◌-◌}
use Rattle.recorder_demo.specs.Threads.{Counts}
use Rattle.recorder_demo.proofs.port.run_port.Given as goal

abbrev pub invariant-events : goal.invariant-events
invariant-events g l = record {
  own : l.seat.desk ≡ l.recording.desk.desk;
  counts : Counts l.recording.places.shape l.port l.seat;
}

abbrev pub decreases-events : goal.decreases-events
decreases-events g l = 128 - (l.port.issued + l.port.replied)
