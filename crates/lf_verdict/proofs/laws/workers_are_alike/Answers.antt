use Rattle.lf_verdict.proofs.One.{verdicts_tell, workers_are_alike}
use Rattle.lf_verdict.proofs.laws.workers_are_alike.Goals as goal

pub returns-clause-outcome : goal.returns-clause-outcome
returns-clause-outcome c = verdicts_tell

pub returns-clause-verdict : goal.returns-clause-verdict
returns-clause-verdict c = workers_are_alike c.verdicts_are_one.ensures.verdict
