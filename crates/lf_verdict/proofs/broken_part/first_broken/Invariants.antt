use Rattle.std.proofs.Common.{map}
use Rattle.lf_verdict.specs.inner.Ending.{NoneBroken}
use Rattle.lf_verdict.proofs.broken_part.first_broken.Given as goal

abbrev pub invariant-loop-part : goal.invariant-loop-part
invariant-loop-part g l = NoneBroken (map g.P.Part.outcome_of l.parts) l.part
