-- What a record must meet: clauses, each with its rule and the side that judges it.
use Rattle.std.specs.Prelude.{Bool}
use Rattle.lf_rules.specs.declared.rule.Rule.{Rule}

-- the port's replay, the bank's, or both
pub data Side : Type 0 where
  OfPort : Side
  OfBank : Side
  OfBoth : Side

pub record Clause : Type 0 where
  pub side : Side
  pub rule : Rule
  pub holds : Bool

abbrev pub port_wants : Rule → Bool → Clause
port_wants rule holds = record { side = OfPort; rule = rule; holds = holds }

abbrev pub bank_wants : Rule → Bool → Clause
bank_wants rule holds = record { side = OfBank; rule = rule; holds = holds }

abbrev pub both_want : Rule → Bool → Clause
both_want rule holds = record { side = OfBoth; rule = rule; holds = holds }
