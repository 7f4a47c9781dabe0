use Rattle.lf_mshr.proofs.Marks.{reach-last, reach-behind}
use Rattle.lf_mshr.proofs.words.reach.Goals as goal

pub returns-clause-last : goal.returns-clause-last
returns-clause-last c = reach-last c.args.word c.ranges.word.fits

pub returns-clause-behind : goal.returns-clause-behind
returns-clause-behind c = reach-behind c.args.word c.ranges.word.fits
