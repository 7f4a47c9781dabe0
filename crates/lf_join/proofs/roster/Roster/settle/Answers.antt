use Rattle.std.proofs.Common.{rules}
use Rattle.lf_join.proofs.roster.Roster.settle.Goals as goal

pub returns-then-number-heads-clause-settled : goal.returns-then-number-heads-clause-settled
returns-then-number-heads-clause-settled c = search rules

pub returns-else-bank-lt-NO_BANK-clause-settled : goal.returns-else-bank-lt-NO_BANK-clause-settled
returns-else-bank-lt-NO_BANK-clause-settled c = search rules
