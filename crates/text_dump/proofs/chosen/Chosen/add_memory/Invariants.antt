-- The lines that were added and those of what is still to take are all lines.
use Rattle.std.proofs.Common.{◌≡◌, ◌+◌, ◌++◌, ℕ, List, map, length}
use Rattle.text_dump.specs.Lines.{len_of, memory_part}
use Rattle.text_dump.specs.Chosen.{memory_candidate, taken_from}
use Rattle.text_dump.specs.Choosing.{Holds}
use Rattle.text_dump.proofs.chosen.Chosen.add_memory.Given as goal

abbrev pub invariant-loop-block : goal.invariant-loop-block
invariant-loop-block l = record {
  reader : l.reader ≡ record l.initial.reader { memory = l.reader.memory };
  choice : l.self.choice ≡ l.initial.self.choice;
  done : List (List ℕ);
  holds : (out head : List ℕ) (lines : List (List ℕ)) → Holds l.initial.self out head lines →
      Holds l.self out head (lines ++ done);
  all : done ++ taken_from l.initial.self.choice l.at (map (memory_candidate l.initial.self.choice) l.reader.memory)
      ≡ taken_from l.initial.self.choice l.initial.offset (map (memory_candidate l.initial.self.choice)
      l.initial.reader.memory);
  end : l.at + len_of (map memory_part l.reader.memory) ≡ l.initial.offset
      + len_of (map memory_part l.initial.reader.memory);
}

abbrev pub decreases-loop-block : goal.decreases-loop-block
decreases-loop-block l = length l.reader.memory
