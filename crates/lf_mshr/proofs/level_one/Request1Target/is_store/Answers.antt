use Rattle.std.proofs.Common.{rules}
use Rattle.lf_mshr.proofs.level_one.Request1Target.is_store.Goals as goal

pub returns : goal.returns
returns c = search rules
