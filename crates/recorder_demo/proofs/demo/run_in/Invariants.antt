use Rattle.std.specs.Prelude.{All}
use Rattle.std.specs.Vec.Iter.{into_iter_items}
use Rattle.recorder_demo.specs.Threads.{IsNew}
use Rattle.recorder_demo.proofs.Joined.{IsFor}
use Rattle.recorder_demo.proofs.demo.run_in.Given as goal

abbrev pub invariant-loop-seat : goal.invariant-loop-seat
invariant-loop-seat g l = record {
  left : All (IsNew l.recording.desk) (into_iter_items l.seat-iterator);
  promises : All (λ h. IsFor l.recording.places.shape l.recording.desk h.promise) l.handles.items;
}
