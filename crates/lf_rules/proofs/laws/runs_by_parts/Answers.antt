use Rattle.lf_rules.proofs.Parts.{runs_by_parts}
use Rattle.lf_rules.proofs.laws.runs_by_parts.Goals as goal

pub returns : goal.returns
returns c = runs_by_parts
