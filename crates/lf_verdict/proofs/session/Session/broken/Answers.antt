use Rattle.std.proofs.Common.{sym, ap, ◌∙◌, subst}
use Rattle.std.specs.Prelude.{IfSome, IfNone}
use Rattle.lf_verdict.specs.Seen.{Seen}
use Rattle.lf_verdict.specs.Final.{IsFinal, IsEarliest}
use Rattle.lf_verdict.specs.Named.{NoneBrokeSoFar}
use Rattle.lf_verdict.specs.Session.{CanTell}
use Rattle.lf_verdict.proofs.session.Session.broken.Goals as goal

pub returns-clause-stands : goal.returns-clause-stands
returns-clause-stands c =
    subst (λ (s : Seen). IfSome c.broken.result (IsFinal s.shape s.fed)) c.self.view_is
    (c.broken.ensures.stands c.self.inside.fed.bytes c.self.invariant.0)

pub returns-clause-earliest : goal.returns-clause-earliest
returns-clause-earliest c watched =
    subst (λ (s : Seen). IfSome c.broken.result (IsEarliest s.shape s.fed)) c.self.view_is
    (c.broken.ensures.earliest (λ _. c.self.invariant.1.0) (ap (λ (s : Seen). s.asked.watched) c.self.view_is ∙ watched)
    c.self.inside.fed.bytes c.self.invariant.0)

pub returns-clause-none : goal.returns-clause-none
returns-clause-none c can =
    subst (λ (s : Seen). IfNone c.broken.result (NoneBrokeSoFar s.shape s.fed)) c.self.view_is
    (c.broken.ensures.none c.self.invariant.1.1 (subst (λ (s : Seen). CanTell s.asked s.stop) (sym c.self.view_is) can)
    c.self.inside.fed.bytes c.self.invariant.0)

pub returns-clause-silent : goal.returns-clause-silent
returns-clause-silent c silent =
    c.broken.ensures.silent (λ can. silent (subst (λ (s : Seen). CanTell s.asked s.stop) c.self.view_is can))
