use Rattle.std.proofs.Common.{rules}
use Rattle.lf_codec.proofs.progress.Progress.new.Goals as goal

pub returns : goal.returns
returns c = search rules
