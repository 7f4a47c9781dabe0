use Rattle.std.proofs.Common.{rules}
use Rattle.run_stream.proofs.counted.Counted.new.Goals as goal

pub returns-clause-calls : goal.returns-clause-calls
returns-clause-calls g c = search rules
