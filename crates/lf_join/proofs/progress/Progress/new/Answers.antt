use Rattle.lf_join.proofs.Reached.{reached_at_start}
use Rattle.lf_join.proofs.progress.Progress.new.Goals as goal

pub returns : goal.returns
returns c count = reached_at_start count
