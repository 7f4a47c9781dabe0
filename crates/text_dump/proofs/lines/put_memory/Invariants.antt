-- What was put and what is still to put are all lines.
use Rattle.std.proofs.Common.{◌≡◌, ◌+◌, ◌++◌, map, length, string_bytes}
use Rattle.text_dump.specs.Lines.{lines_from, len_of, memory_part}
use Rattle.text_dump.proofs.lines.put_memory.Given as goal

abbrev pub invariant-loop-block : goal.invariant-loop-block
invariant-loop-block l = record {
  reader : l.reader ≡ record l.initial.reader { memory = l.reader.memory };
  lines : string_bytes l.text ++ lines_from l.at (map memory_part l.reader.memory)
      ≡ string_bytes l.initial.text ++ lines_from l.initial.offset (map memory_part l.initial.reader.memory);
  end : l.at + len_of (map memory_part l.reader.memory) ≡ l.initial.offset
      + len_of (map memory_part l.initial.reader.memory);
}

abbrev pub decreases-loop-block : goal.decreases-loop-block
decreases-loop-block l = length l.reader.memory
