use Rattle.std.proofs.Common.{rules}
use Rattle.lf_stats.proofs.bank_count.BankCount.new.Goals as goal

pub returns : goal.returns
returns c = search rules
