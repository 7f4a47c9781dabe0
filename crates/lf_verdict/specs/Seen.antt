-- What is seen of a session.
use Rattle.std.specs.Prelude.{ℕ, List, Option}
use Rattle.lf_rules.specs.declared.shape.Shape.{Shape}
use Rattle.lf_verdict.specs.declared.session.asked.Asked.{Asked}
use Rattle.lf_verdict.specs.declared.stop.Stop.{Stop}

-- The hierarchy that it judges for, what it is asked for, all bytes that it was fed, and what stopped it, if anything.
pub record Seen : Type 0 where
  pub shape : Shape
  pub asked : Asked
  pub fed : List ℕ
  pub stop : Option Stop
