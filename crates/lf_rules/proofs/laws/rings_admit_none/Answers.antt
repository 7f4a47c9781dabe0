use Rattle.lf_rules.proofs.Rings.{rings_admit_none as law}
use Rattle.lf_rules.proofs.laws.rings_admit_none.Goals as goal

pub returns : goal.returns
returns c = law
