use Rattle.std.proofs.Common.{rules}
use Rattle.run_engine.proofs.line.InputFaultDisplay.fmt.Goals as goal

pub returns-in-Usage-clause-writes : goal.returns-in-Usage-clause-writes
returns-in-Usage-clause-writes g c = search rules
