use Rattle.lf_stats.proofs.Complete.{counts_are}
use Rattle.lf_stats.proofs.laws.counts_are_statistics.Goals as goal

pub returns : goal.returns
returns c = counts_are
