use Rattle.lf_mshr.proofs.Find.{AreMarks}
use Rattle.lf_mshr.proofs.words.marks_of.Given as goal

abbrev pub invariant-loop-at : goal.invariant-loop-at
invariant-loop-at l = AreMarks l.blocks l.block l.at l.marks
