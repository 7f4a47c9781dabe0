use Rattle.std.proofs.Common.{List}
use Rattle.lf_rules.specs.declared.shape.Shape.{Shape}
use Rattle.lf_rules.specs.declared.event.Record.{Record}
use Rattle.lf_rules.specs.Address.{FlatMemory}
use Rattle.lf_logs.specs.Incomplete.{AreComplete}
use Rattle.lf_verdict.specs.Parts.{PartsRun}
use Rattle.lf_verdict.specs.inner.Coming.{logs_so_far}
use Rattle.lf_verdict.specs.Standing.{StandsAfterAll}
use Rattle.lf_verdict.proofs.session.standing.Standing.first_incomplete.Given as goal

abbrev pub invariant-loop-port : goal.invariant-loop-port
invariant-loop-port l = (shape : Shape) (memory : FlatMemory) (records : List Record) →
    StandsAfterAll shape memory records l.self
    → PartsRun shape memory (logs_so_far shape records) → AreComplete l.port (logs_so_far shape records)
