use Rattle.lf_rules.proofs.MaskBits.{covers_by_and}
use Rattle.lf_rules.proofs.mask.Mask.covers.Goals as goal

pub returns : goal.returns
returns c = covers_by_and c.args.self.0 c.args.other.0
