use Rattle.std.proofs.Common.{Option, subst}
use Rattle.std.specs.Prelude.{IfOk, IfSome, IfNone}
use Rattle.lf_rules.specs.declared.shape.Shape.{Shape}
use Rattle.lf_verdict.specs.declared.session.breaking.Broken.{Broken}
use Rattle.lf_verdict.specs.Final.{IsFinal}
use Rattle.lf_verdict.specs.Named.{IsNamed, NoneBrokeSoFar}
use Rattle.lf_verdict.proofs.session.ahead.Ahead.named.Goals as goal

pub returns-clause-stands : goal.returns-clause-stands
returns-clause-stands g c bytes taken =
    subst (λ (shape : Shape). IfOk c.named.result (λ (found : Option Broken). IfSome found (IsFinal shape bytes)))
    c.in_ok-settle.ensures.shape (c.named.ensures.stands bytes (c.in_ok-settle.ensures.taken bytes taken))

pub returns-clause-named : goal.returns-clause-named
returns-clause-named g c bytes taken =
    subst (λ (shape : Shape). IfOk c.named.result (λ (found : Option Broken). IfSome found (IsNamed shape bytes)))
    c.in_ok-settle.ensures.shape (c.named.ensures.named bytes (c.in_ok-settle.ensures.taken bytes taken))

pub returns-clause-none : goal.returns-clause-none
returns-clause-none g c bytes taken =
    subst
    (λ (shape : Shape). IfOk c.named.result (λ (found : Option Broken). IfNone found (NoneBrokeSoFar shape bytes)))
    c.in_ok-settle.ensures.shape (c.named.ensures.none bytes (c.in_ok-settle.ensures.taken bytes taken))
