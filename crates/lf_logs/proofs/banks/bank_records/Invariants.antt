use Rattle.lf_rules.specs.Lists.{lists_of}
use Rattle.lf_logs.proofs.BankLists.{OrderedBelow}
use Rattle.lf_logs.proofs.banks.bank_records.Given as goal

abbrev pub invariant-loop-bank : goal.invariant-loop-bank
invariant-loop-bank l = OrderedBelow (lists_of l.fn.logs) l.banks l.lists.items l.bank
