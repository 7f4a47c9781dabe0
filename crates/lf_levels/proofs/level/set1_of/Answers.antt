use Rattle.std.proofs.Common.{rules}
use Rattle.lf_levels.proofs.level.set1_of.Goals as goal

pub returns : goal.returns
returns c = search rules
