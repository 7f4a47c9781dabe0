use Rattle.std.proofs.Common.{rules}
use Rattle.lf_config.proofs.text.KeyDisplay.fmt.Goals as goal

pub returns-in-Of-clause-writes : goal.returns-in-Of-clause-writes
returns-in-Of-clause-writes g c = search rules
