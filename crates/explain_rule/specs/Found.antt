-- What is found of the record that breaks a rule, and of those before it.
use Rattle.std.specs.Prelude.{ℕ, List}
use Rattle.lf_rules.specs.declared.event.Record.{Record}
use Rattle.lf_rules.specs.declared.shape.Shape.{Shape}
use Rattle.lf_rules.specs.Fits.{Bytes}
use Rattle.explain_rule.specs.declared.explanation.Breach.{Breach}
use Rattle.explain_rule.specs.declared.found.Found.{Found}
use Rattle.explain_rule.specs.Explanation.{IsHistoryOf, IsBrokenBy}
use Rattle.explain_rule.specs.Origins.{AreBefore}

pub record IsFound (shape : Shape) (memory : List (ℕ × Bytes)) (rs : List Record) (breach : Breach) (most : ℕ)
    (found : Found) : Type 0 where
  pub history : IsHistoryOf shape rs breach most found.history
  pub broken : IsBrokenBy shape memory rs breach found.broken
  pub before : AreBefore rs breach found.before.items
