use Rattle.std.proofs.Common.{rules}
use Rattle.lf_codec.specs.Checks.{stage_checks}
use Rattle.lf_codec.proofs.progress.Progress.check_part.Goals as goal

pub returns-in-Ended : goal.returns-in-Ended
unfolding stage_checks
returns-in-Ended c = search rules
