use Rattle.std.proofs.Common.{rules}
use Rattle.lf_recorder.proofs.desk.LogSeat.log.Goals as goal

pub returns : goal.returns
returns c = search rules
