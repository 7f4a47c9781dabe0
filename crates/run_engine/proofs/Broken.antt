-- What broke first shows that something broke.
use Rattle.std.proofs.Common.{◌≡◌, ℕ, List, Option, Some, None, refl}
use Rattle.std.specs.Prelude.{◌↔◌, IsTrue, is_some, IfSome, IfNone}
use Rattle.lf_rules.specs.declared.shape.Shape.{Shape}
use Rattle.lf_verdict.specs.declared.session.breaking.Broken.{Broken}
use Rattle.lf_verdict.specs.Final.{IsEarliest}
use Rattle.lf_verdict.specs.Named.{NoneBrokeSoFar}
use Rattle.lf_verdict.proofs.Firsts.{earliest_broke}
use Rattle.run_engine.specs.Gathered.{HasBroken}

-- A session tells something exactly where something broke.
pub tells_broken : (shape : Shape) (bytes : List ℕ) (found : Option Broken) → IfSome found (IsEarliest shape bytes)
    → IfNone found (NoneBrokeSoFar shape bytes) → (IsTrue (is_some found) ↔ HasBroken shape bytes)
tells_broken shape bytes (Some x) is none = (λ _. λ whole. earliest_broke shape bytes x is whole, λ _. refl)
tells_broken shape bytes None is none = (λ bad. absurd (cc), λ broke. absurd (broke none))
