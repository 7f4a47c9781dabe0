use Rattle.lf_rules.specs.Lists.{lists_of}
use Rattle.lf_verdict.specs.inner.Ending.{AreWholeBelow}
use Rattle.lf_verdict.specs.inner.Jobs.{AreOrders}
use Rattle.lf_verdict.proofs.pool.numbers.number_banks.Given as goal

abbrev pub invariant-loop-bank : goal.invariant-loop-bank
invariant-loop-bank l = AreOrders (lists_of l.logs) l.bank (lists_of l.all) × AreWholeBelow (lists_of l.logs) l.bank
