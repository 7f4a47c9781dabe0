use Rattle.lf_join.proofs.LogSetLemmas.{empty_set}
use Rattle.lf_join.proofs.log_set.LogSet.new.Goals as goal

pub returns : goal.returns
returns c = empty_set
