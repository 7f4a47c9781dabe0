use Rattle.std.proofs.Common.{rules}
use Rattle.lf_mshr.proofs.level_one.Request1Target.position.Goals as goal

pub returns-clause-field : goal.returns-clause-field
returns-clause-field c = search rules
