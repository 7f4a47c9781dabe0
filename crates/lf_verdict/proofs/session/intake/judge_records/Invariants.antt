use Rattle.std.proofs.Common.{◌≡◌, Bool, ℕ, List, length}
use Rattle.lf_rules.specs.declared.shape.Shape.{Shape}
use Rattle.lf_rules.specs.declared.event.Record.{Record}
use Rattle.lf_rules.specs.Fits.{Bytes}
use Rattle.lf_codec.specs.Reader.{HasRead}
use Rattle.lf_verdict.specs.Standing.{Counts, IsKnown}
use Rattle.lf_verdict.specs.inner.Fed.{IsRunning}
use Rattle.lf_verdict.proofs.session.intake.judge_records.Given as goal

abbrev pub invariant-loop-item : goal.invariant-loop-item
invariant-loop-item l = record {
  fault : l.reader.fault ≡ l.fn.reader.fault;
  read : (shape : Shape) (ordered : Bool) (bytes : List ℕ) (memory : List (ℕ × Bytes)) (records : List Record) →
      HasRead l.fn.reader bytes memory records
      → IsRunning shape ordered bytes memory records l.fn.standing → (more : List Record) ×
      (HasRead l.reader bytes memory more × IsRunning shape ordered bytes memory more l.standing);
  known : IsKnown l.fn.standing.watch → IsKnown l.standing.watch;
  counts : Counts l.fn.standing → Counts l.standing;
}

abbrev pub decreases-loop-item : goal.decreases-loop-item
decreases-loop-item l = length l.reader.records
