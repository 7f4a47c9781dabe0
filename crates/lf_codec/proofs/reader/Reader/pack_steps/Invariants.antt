use Rattle.std.proofs.Common.{◌≡◌, ◌≤◌, ◌-◌, length, take, None, []}
use Rattle.lf_codec.specs.Reading.{read_on}
use Rattle.lf_codec.specs.Reader.{with_records}
use Rattle.lf_codec.proofs.reader.Reader.pack_steps.Given as goal

abbrev pub invariant-loop-at : goal.invariant-loop-at
invariant-loop-at l = record {
  within : l.at ≤ length l.piece;
  fine : l.self.fault ≡ None;
  none : l.self.records ≡ [];
  so_far : with_records l.records.records l.self ≡ read_on (with_records l.initial.records.records l.initial.self)
      (take l.at l.piece);
  bytes : l.records.bytes ≡ l.initial.records.bytes;
}

abbrev pub decreases-loop-at : goal.decreases-loop-at
decreases-loop-at l = length l.piece - l.at
