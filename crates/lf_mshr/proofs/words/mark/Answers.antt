use Rattle.lf_mshr.proofs.Marks.{marked-is}
use Rattle.lf_mshr.proofs.words.mark.Goals as goal

pub returns-clause-bits : goal.returns-clause-bits
returns-clause-bits c = rw c.from.ensures (marked-is c.args.words.now c.args.bit c.requires)
