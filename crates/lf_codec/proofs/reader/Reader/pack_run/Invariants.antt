use Rattle.std.proofs.Common.{◌≡◌, ◌≤◌, ◌-◌, length, take, None, []}
use Rattle.lf_codec.specs.Reading.{read_on}
use Rattle.lf_codec.specs.Reader.{with_records}
use Rattle.lf_codec.proofs.reader.Reader.pack_run.Given as goal

abbrev pub invariant-loop-n : goal.invariant-loop-n
invariant-loop-n l = record {
  within : l.at ≤ length l.bytes;
  fine : l.self.fault ≡ None;
  between : l.self.pending ≡ [];
  none : l.self.records ≡ [];
  header : l.records.header ≡ l.self.progress.header;
  bytes : l.records.bytes ≡ l.initial.records.bytes;
  so_far : with_records l.records.records l.self ≡ read_on (with_records l.initial.records.records l.initial.self)
      (take l.at l.bytes);
}

abbrev pub decreases-loop-n : goal.decreases-loop-n
decreases-loop-n l = length l.bytes - l.at
