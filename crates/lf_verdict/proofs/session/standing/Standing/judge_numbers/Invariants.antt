use Rattle.std.proofs.Common.{List}
use Rattle.lf_rules.specs.declared.shape.Shape.{Shape}
use Rattle.lf_rules.specs.declared.event.Record.{Record}
use Rattle.lf_rules.specs.Address.{FlatMemory}
use Rattle.lf_verdict.specs.inner.Ending.{AreWholeBelow}
use Rattle.lf_verdict.specs.inner.Coming.{logs_so_far}
use Rattle.lf_verdict.specs.Standing.{StandsAfterAll}
use Rattle.lf_verdict.proofs.session.standing.Standing.judge_numbers.Given as goal

abbrev pub invariant-loop-bank : goal.invariant-loop-bank
invariant-loop-bank l = (shape : Shape) (memory : FlatMemory) (records : List Record) →
    StandsAfterAll shape memory records l.self → AreWholeBelow (logs_so_far shape records) l.bank
