-- The lines that were added and those of what is still to take are all lines.
use Rattle.std.proofs.Common.{◌≡◌, ◌+◌, ◌++◌, ℕ, List, map, length}
use Rattle.text_dump.specs.Lines.{len_of, record_part}
use Rattle.text_dump.specs.Chosen.{record_candidate, taken_from}
use Rattle.text_dump.specs.Choosing.{Holds}
use Rattle.text_dump.proofs.chosen.Chosen.add_records.Given as goal

abbrev pub invariant-loop-item : goal.invariant-loop-item
invariant-loop-item l = record {
  reader : l.reader ≡ record l.initial.reader { records = l.reader.records };
  choice : l.self.choice ≡ l.initial.self.choice;
  done : List (List ℕ);
  holds : (out head : List ℕ) (lines : List (List ℕ)) → Holds l.initial.self out head lines →
      Holds l.self out head (lines ++ done);
  all : done ++ taken_from l.initial.self.choice l.at (map (record_candidate l.initial.self.choice l.initial.header)
      l.reader.records)
      ≡ taken_from l.initial.self.choice l.initial.offset (map
      (record_candidate l.initial.self.choice l.initial.header) l.initial.reader.records);
  end : l.at + len_of (map record_part l.reader.records) ≡ l.initial.offset
      + len_of (map record_part l.initial.reader.records);
  counted : l.count + length l.reader.records ≡ l.initial.count + length l.initial.reader.records;
}

abbrev pub decreases-loop-item : goal.decreases-loop-item
decreases-loop-item l = length l.reader.records
