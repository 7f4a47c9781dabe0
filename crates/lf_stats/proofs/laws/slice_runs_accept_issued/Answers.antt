use Rattle.lf_stats.proofs.Accepting.{runs_accept_issued}
use Rattle.lf_stats.proofs.laws.slice_runs_accept_issued.Goals as goal

pub returns : goal.returns
returns c = runs_accept_issued
