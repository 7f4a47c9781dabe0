use Rattle.lf_rules.proofs.Numbered.{gaps_admit_none}
use Rattle.lf_rules.proofs.laws.gaps_admit_none.Goals as goal

pub returns : goal.returns
returns c = gaps_admit_none
