use Rattle.lf_mshr.proofs.Marks.{unmarked-is}
use Rattle.lf_mshr.proofs.words.unmark.Goals as goal

pub returns-clause-bits : goal.returns-clause-bits
returns-clause-bits c = rw c.from.ensures (unmarked-is c.args.words.now c.args.bit c.requires)
