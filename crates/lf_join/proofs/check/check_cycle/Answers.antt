use Rattle.std.proofs.Common.{rules}
use Rattle.lf_join.proofs.check.check_cycle.Goals as goal

pub returns-then-not-waits : goal.returns-then-not-waits
returns-then-not-waits c = search rules

pub loop-j-preserved : goal.loop-j-preserved
loop-j-preserved c = search rules
