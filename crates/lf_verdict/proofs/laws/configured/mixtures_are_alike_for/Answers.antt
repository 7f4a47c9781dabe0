use Rattle.lf_verdict.proofs.ConfiguredLaws.{mixtures_are_alike_for}
use Rattle.lf_verdict.proofs.laws.configured.mixtures_are_alike_for.Goals as goal

pub returns : goal.returns
returns c = mixtures_are_alike_for c.mixtures_are_alike.ensures.verdict
