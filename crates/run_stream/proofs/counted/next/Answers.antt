use Rattle.std.proofs.Common.{rules}
use Rattle.run_stream.proofs.counted.next.Goals as goal

pub returns : goal.returns
returns c = search rules
