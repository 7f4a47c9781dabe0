use Rattle.std.proofs.Common.{rules}
use Rattle.recorder_demo.proofs.demo.written.Goals as goal

pub returns : goal.returns
returns c = search rules
