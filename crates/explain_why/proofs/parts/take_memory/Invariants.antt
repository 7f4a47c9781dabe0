use Rattle.std.proofs.Common.{◌≡◌, ℕ, List, length}
use Rattle.lf_rules.specs.declared.event.Record.{Record}
use Rattle.lf_codec.specs.Reader.{HasRead}
use Rattle.explain_why.proofs.parts.take_memory.Given as goal

abbrev pub invariant-loop-block : goal.invariant-loop-block
invariant-loop-block l = record {
  taken : (fed : List ℕ) (records : List Record) → HasRead l.initial.reader fed l.initial.memory.items records
      → HasRead l.reader fed l.memory.items records;
  records : l.reader.records ≡ l.initial.reader.records;
}

abbrev pub decreases-loop-block : goal.decreases-loop-block
decreases-loop-block l = length l.reader.memory
