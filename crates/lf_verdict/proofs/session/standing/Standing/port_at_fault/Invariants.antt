use Rattle.std.proofs.Common.{◌<◌, ℕ, List}
use Rattle.lf_rules.specs.declared.shape.Shape.{Shape}
use Rattle.lf_rules.specs.declared.event.Record.{Record}
use Rattle.lf_rules.specs.Address.{FlatMemory}
use Rattle.lf_verdict.specs.inner.Noting.{IsPortWhole}
use Rattle.lf_verdict.specs.Standing.{StandsAfterAll}
use Rattle.lf_verdict.proofs.session.standing.Standing.port_at_fault.Given as goal

abbrev pub invariant-loop-port : goal.invariant-loop-port
invariant-loop-port l = (shape : Shape) (memory : FlatMemory) (records : List Record) →
    StandsAfterAll shape memory records l.self
    → (port : ℕ) → port < l.port → IsPortWhole shape memory records port
