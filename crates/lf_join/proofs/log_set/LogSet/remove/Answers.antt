use Rattle.lf_join.proofs.LogSetLemmas.{removed}
use Rattle.lf_join.proofs.log_set.LogSet.remove.Goals as goal

pub returns-clause-removed : goal.returns-clause-removed
returns-clause-removed c = removed c.args.self.now.0 c.args.log c.requires
