use Rattle.lf_verdict.proofs.Mixed.{alike, mixtures_are_alike}
use Rattle.lf_verdict.proofs.laws.mixtures_are_alike.Goals as goal

pub returns-clause-outcome : goal.returns-clause-outcome
returns-clause-outcome c = alike c.one_trace.ensures c.faultless_bytes.ensures

pub returns-clause-verdict : goal.returns-clause-verdict
returns-clause-verdict c = mixtures_are_alike c.one_trace.ensures c.faultless_bytes.ensures
