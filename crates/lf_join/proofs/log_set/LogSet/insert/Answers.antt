use Rattle.lf_join.proofs.LogSetLemmas.{inserted}
use Rattle.lf_join.proofs.log_set.LogSet.insert.Goals as goal

pub returns : goal.returns
returns c = inserted c.args.self.now.0 c.args.log c.requires
