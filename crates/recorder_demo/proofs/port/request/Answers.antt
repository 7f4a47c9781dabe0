use Rattle.std.proofs.Common.{rules}
use Rattle.recorder_demo.proofs.port.request.Goals as goal

pub returns-clause-op : goal.returns-clause-op
returns-clause-op c = search rules
