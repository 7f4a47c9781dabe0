use Rattle.std.specs.Prelude.{Option, Some, None, IfSome}
use Rattle.lf_verdict.specs.declared.session.breaking.Broken.{Broken}
use Rattle.lf_verdict.specs.Final.{IsFinal, IsEarliest}
use Rattle.lf_verdict.specs.Seen.{Seen}
use Rattle.library_c.specs.Answers.{IsBroken}
use Rattle.library_c.proofs.exports.broken.Goals as goal

both : (s : Seen) (found : Option Broken) → IfSome found (IsFinal s.shape s.fed)
    → IfSome found (IsEarliest s.shape s.fed) → IfSome found (IsBroken s)
both s None final earliest = tt
both s (Some found) final earliest = record { final = final; earliest = earliest }

pub returns-clause-some : goal.returns-clause-some
returns-clause-some c =
    both c.args.session.now c.broken.result c.broken.ensures.stands (c.broken.ensures.earliest c.requires)
