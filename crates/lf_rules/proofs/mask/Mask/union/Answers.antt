use Rattle.std.proofs.Common.{refl}
use Rattle.lf_rules.proofs.MaskBits.{under_union}
use Rattle.lf_rules.proofs.mask.Mask.union.Goals as goal

pub returns-clause-value : goal.returns-clause-value
returns-clause-value c = refl

pub returns-clause-bits : goal.returns-clause-bits
returns-clause-bits c = under_union c.args.self.0 c.args.other.0
