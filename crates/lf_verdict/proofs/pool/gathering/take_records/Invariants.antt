use Rattle.std.proofs.Common.{◌≡◌, ℕ, List, length}
use Rattle.lf_rules.specs.Fits.{Bytes}
use Rattle.lf_rules.specs.declared.event.Record.{Record}
use Rattle.lf_codec.specs.Reader.{HasRead}
use Rattle.lf_rules.specs.Lists.{lists_of}
use Rattle.lf_logs.specs.Lists.{logs_of}
use Rattle.lf_verdict.proofs.pool.gathering.take_records.Given as goal

abbrev pub invariant-loop-item : goal.invariant-loop-item
invariant-loop-item l = record {
  taken : (count : ℕ) (bytes : List ℕ) (memory : List (ℕ × Bytes)) (records : List Record) →
      HasRead l.fn.reader bytes memory records → lists_of l.fn.logs ≡ logs_of count records
      → (all : List Record) × (HasRead l.reader bytes memory all × (lists_of l.logs ≡ logs_of count all));
  fault : l.reader.fault ≡ l.fn.reader.fault;
  memory : l.reader.memory ≡ l.fn.reader.memory;
}

abbrev pub decreases-loop-item : goal.decreases-loop-item
decreases-loop-item l = length l.reader.records
