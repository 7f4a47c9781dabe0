use Rattle.std.proofs.Common.{rules}
use Rattle.lf_config.proofs.rules.is_needed.Goals as goal

pub returns-in-Always-default : goal.returns-in-Always-default
returns-in-Always-default c = search rules
