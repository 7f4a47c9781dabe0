use Rattle.std.proofs.Common.{rules}
use Rattle.lf_mshr.proofs.level_two.Request2Target.destination.Goals as goal

pub returns : goal.returns
returns c = search rules
