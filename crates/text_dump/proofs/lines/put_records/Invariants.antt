-- What was put and what is still to put are all lines.
use Rattle.std.proofs.Common.{◌≡◌, ◌+◌, ◌++◌, map, length, string_bytes}
use Rattle.text_dump.specs.Lines.{lines_from, len_of, record_part}
use Rattle.text_dump.proofs.lines.put_records.Given as goal

abbrev pub invariant-loop-item : goal.invariant-loop-item
invariant-loop-item l = record {
  reader : l.reader ≡ record l.initial.reader { records = l.reader.records };
  lines : string_bytes l.text ++ lines_from l.at (map record_part l.reader.records)
      ≡ string_bytes l.initial.text ++ lines_from l.initial.offset (map record_part l.initial.reader.records);
  end : l.at + len_of (map record_part l.reader.records) ≡ l.initial.offset
      + len_of (map record_part l.initial.reader.records);
  counted : l.count + length l.reader.records ≡ l.initial.count + length l.initial.reader.records;
}

abbrev pub decreases-loop-item : goal.decreases-loop-item
decreases-loop-item l = length l.reader.records
