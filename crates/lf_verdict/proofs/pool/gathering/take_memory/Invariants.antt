use Rattle.std.proofs.Common.{◌≡◌, ℕ, List, length}
use Rattle.lf_rules.specs.declared.event.Record.{Record}
use Rattle.lf_codec.specs.Reader.{HasRead}
use Rattle.lf_verdict.proofs.pool.gathering.take_memory.Given as goal

abbrev pub invariant-loop-item : goal.invariant-loop-item
invariant-loop-item l = record {
  taken : (bytes : List ℕ) (records : List Record) → HasRead l.fn.reader bytes l.fn.memory.items records →
      HasRead l.reader bytes l.memory.items records;
  fault : l.reader.fault ≡ l.fn.reader.fault;
}

abbrev pub decreases-loop-item : goal.decreases-loop-item
decreases-loop-item l = length l.reader.memory
