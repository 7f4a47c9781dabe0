use Rattle.std.proofs.Common.{◌++◌, List, take}
use Rattle.std.specs.List.{AllByRecursion}
use Rattle.lf_rules.specs.declared.shape.Shape.{Shape}
use Rattle.lf_rules.specs.declared.event.Record.{Record}
use Rattle.lf_rules.specs.Address.{FlatMemory}
use Rattle.lf_rules.specs.Fits.{Fits}
use Rattle.lf_rules.specs.Run.{of_bank}
use Rattle.lf_verdict.specs.Standing.{IsBankSettled}
use Rattle.lf_verdict.proofs.session.standing.bank_judge.BankJudge.take_own.Given as goal

abbrev pub invariant-loop-at : goal.invariant-loop-at
invariant-loop-at l = (shape : Shape) (memory : FlatMemory) (came gave : List Record) →
    AllByRecursion (Fits shape) l.records.records → IsBankSettled shape memory l.bank came gave l.fn.self
    → (more : List Record) × IsBankSettled shape memory l.bank (came ++ of_bank l.bank (take l.at l.records.records))
    more l.self
