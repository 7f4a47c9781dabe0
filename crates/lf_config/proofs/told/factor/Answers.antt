use Rattle.std.proofs.Common.{rules}
use Rattle.lf_config.proofs.told.factor.Goals as goal

pub returns-in-None : goal.returns-in-None
returns-in-None c = search rules
