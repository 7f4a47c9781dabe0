use Rattle.std.proofs.Common.{subst}
use Rattle.std.specs.Prelude.{IfSome, IfNone}
use Rattle.lf_rules.specs.declared.shape.Shape.{Shape}
use Rattle.lf_verdict.specs.Final.{IsFinal}
use Rattle.lf_verdict.specs.Named.{IsNamed, NoneBrokeSoFar}
use Rattle.lf_verdict.proofs.session.intake.Intake.named.Goals as goal

pub returns-clause-stands : goal.returns-clause-stands
returns-clause-stands c bytes m =
    subst (λ (shape : Shape). IfSome c.at_fault.result (IsFinal shape bytes)) c.in_ok-take_all.ensures.shape
    (c.at_fault.ensures.stands bytes (c.in_ok-take_all.ensures.taken bytes m))

pub returns-clause-named : goal.returns-clause-named
returns-clause-named c bytes m =
    subst (λ (shape : Shape). IfSome c.at_fault.result (IsNamed shape bytes)) c.in_ok-take_all.ensures.shape
    (c.at_fault.ensures.named bytes (c.in_ok-take_all.ensures.taken bytes m))

pub returns-clause-none : goal.returns-clause-none
returns-clause-none c bytes m =
    subst (λ (shape : Shape). IfNone c.at_fault.result (NoneBrokeSoFar shape bytes)) c.in_ok-take_all.ensures.shape
    (c.at_fault.ensures.none bytes (c.in_ok-take_all.ensures.taken bytes m))
