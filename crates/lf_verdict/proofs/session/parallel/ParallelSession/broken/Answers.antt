use Rattle.std.proofs.Common.{sym, ap, ◌∙◌, subst}
use Rattle.std.specs.Prelude.{IfSome, IfNone}
use Rattle.lf_verdict.specs.Seen.{Seen}
use Rattle.lf_verdict.specs.Final.{IsFinal, IsEarliest}
use Rattle.lf_verdict.specs.Named.{IsNamed, NoneBrokeSoFar}
use Rattle.lf_verdict.specs.Session.{CanTell}
use Rattle.lf_verdict.proofs.session.parallel.ParallelSession.broken.Goals as goal

pub invariant_of-self : goal.invariant_of-self
invariant_of-self g c = (c.broken.ensures.fed c.self.inside.fed.bytes c.self.invariant.0, c.broken.ensures.ahead)

pub returns-clause-stands : goal.returns-clause-stands
returns-clause-stands g c =
    subst (λ (s : Seen). IfSome c.broken.result (IsFinal s.shape s.fed)) c.self.view_is
    (c.broken.ensures.found c.self.inside.fed.bytes c.self.invariant.0).final

pub returns-clause-earliest : goal.returns-clause-earliest
returns-clause-earliest g c watched =
    subst (λ (s : Seen). IfSome c.broken.result (IsEarliest s.shape s.fed)) c.self.view_is
    ((c.broken.ensures.found c.self.inside.fed.bytes c.self.invariant.0).earliest
    (ap (λ (s : Seen). s.asked.watched) c.self.view_is ∙ watched))

pub returns-clause-named : goal.returns-clause-named
returns-clause-named g c unwatched =
    subst (λ (s : Seen). IfSome c.broken.result (IsNamed s.shape s.fed)) c.self.view_is
    ((c.broken.ensures.found c.self.inside.fed.bytes c.self.invariant.0).named
    (ap (λ (s : Seen). s.asked.watched) c.self.view_is ∙ unwatched))

pub returns-clause-none : goal.returns-clause-none
returns-clause-none g c can =
    subst (λ (s : Seen). IfNone c.broken.result (NoneBrokeSoFar s.shape s.fed)) c.self.view_is
    ((c.broken.ensures.found c.self.inside.fed.bytes c.self.invariant.0).none
    (subst (λ (s : Seen). CanTell s.asked c.broken.new.self.intake.stop) (sym c.self.view_is) can))

pub returns-clause-silent : goal.returns-clause-silent
returns-clause-silent g c silent =
    c.broken.ensures.silent
    (λ can. silent (subst (λ (s : Seen). CanTell s.asked c.broken.new.self.intake.stop) c.self.view_is can))
