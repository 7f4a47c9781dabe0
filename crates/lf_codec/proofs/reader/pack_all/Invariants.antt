use Rattle.std.proofs.Common.{◌≡◌, ◌++◌, length}
use Rattle.lf_codec.proofs.reader.pack_all.Given as goal

abbrev pub invariant-loop-item : goal.invariant-loop-item
invariant-loop-item l = record {
  all : l.records.records ++ l.waiting.items ≡ l.initial.records.records ++ l.initial.waiting.items;
  rest : l.records ≡ record l.initial.records { records = l.records.records };
}

abbrev pub decreases-loop-item : goal.decreases-loop-item
decreases-loop-item l = length l.waiting.items
