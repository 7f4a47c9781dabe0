use Rattle.std.proofs.Common.{rules}
use Rattle.lf_config.proofs.text.ConfigFaultDisplay.fmt.Goals as goal

pub returns-in-Range-clause-writes : goal.returns-in-Range-clause-writes
returns-in-Range-clause-writes g c = search rules
