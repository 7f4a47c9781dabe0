use Rattle.std.proofs.Common.{rules}
use Rattle.lf_stats.proofs.counts.BankStats.count.Goals as goal

pub returns-in-Stall-clause-merges : goal.returns-in-Stall-clause-merges
returns-in-Stall-clause-merges c = search rules

pub returns-in-Stall-clause-stalls : goal.returns-in-Stall-clause-stalls
returns-in-Stall-clause-stalls c = search rules
