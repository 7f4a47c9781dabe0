use Rattle.std.specs.Prelude.{All}
use Rattle.std.specs.Vec.Iter.{into_iter_items}
use Rattle.recorder_demo.specs.Threads.{IsGivenBack, IsWholeSeat}
use Rattle.recorder_demo.proofs.demo.seats_of.Given as goal

abbrev pub invariant-loop-one : goal.invariant-loop-one
invariant-loop-one l = record {
  left : All (IsGivenBack l.recording.places.shape l.recording.desk) (into_iter_items l.one-iterator);
  seats : All (IsWholeSeat l.recording.places.shape l.recording.desk) l.seats.items;
}
