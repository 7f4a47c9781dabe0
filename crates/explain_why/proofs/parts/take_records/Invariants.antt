use Rattle.std.proofs.Common.{◌≡◌, ℕ, List, length}
use Rattle.lf_rules.specs.Fits.{Bytes}
use Rattle.lf_codec.specs.Reader.{HasRead}
use Rattle.explain_why.proofs.parts.take_records.Given as goal

abbrev pub invariant-loop-item : goal.invariant-loop-item
invariant-loop-item l = record {
  taken : (fed : List ℕ) (memory : List (ℕ × Bytes)) → HasRead l.initial.reader fed memory l.initial.records.items
      → HasRead l.reader fed memory l.records.items;
  memory : l.reader.memory ≡ l.initial.reader.memory;
}

abbrev pub decreases-loop-item : goal.decreases-loop-item
decreases-loop-item l = length l.reader.records
