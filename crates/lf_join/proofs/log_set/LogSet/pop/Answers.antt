use Rattle.lf_join.proofs.LogSetLemmas.{below_without}
use Rattle.lf_join.proofs.log_set.LogSet.pop.Goals as goal

pub returns-clause-below : goal.returns-clause-below
returns-clause-below c = below_without c.args.self.now c.remove.new.self c.in_ok-log.log c.in_ok-log.ensures.member
    c.remove.ensures.removed.this c.remove.ensures.not_above
