use Rattle.lf_verdict.proofs.Named.{one_is_named}
use Rattle.lf_verdict.proofs.laws.one_is_named.Goals as goal

pub returns : goal.returns
returns c = one_is_named
