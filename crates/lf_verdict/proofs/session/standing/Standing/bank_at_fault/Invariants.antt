use Rattle.std.proofs.Common.{◌<◌, ℕ, List}
use Rattle.lf_rules.specs.declared.shape.Shape.{Shape}
use Rattle.lf_rules.specs.declared.event.Record.{Record}
use Rattle.lf_rules.specs.Address.{FlatMemory}
use Rattle.lf_verdict.specs.inner.Noting.{IsBankWhole}
use Rattle.lf_verdict.specs.Standing.{StandsAfterAll}
use Rattle.lf_verdict.proofs.session.standing.Standing.bank_at_fault.Given as goal

abbrev pub invariant-loop-bank : goal.invariant-loop-bank
invariant-loop-bank l = (shape : Shape) (memory : FlatMemory) (records : List Record) →
    StandsAfterAll shape memory records l.self
    → (bank : ℕ) → bank < l.bank → IsBankWhole shape memory records bank
