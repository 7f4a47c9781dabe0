use Rattle.std.proofs.Common.{rules}
use Rattle.lf_logs.proofs.port.BusyTags.failing.Goals as goal

pub returns-else-is_some : goal.returns-else-is_some
returns-else-is_some c = search rules
