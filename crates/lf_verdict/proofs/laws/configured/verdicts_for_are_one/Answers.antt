use Rattle.lf_verdict.proofs.ConfiguredLaws.{verdicts_for_are_one}
use Rattle.lf_verdict.proofs.laws.configured.verdicts_for_are_one.Goals as goal

pub returns : goal.returns
returns c = verdicts_for_are_one c.verdicts_are_one.ensures.verdict
