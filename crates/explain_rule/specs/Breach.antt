-- The rule that a record breaks.
use Rattle.lf_rules.specs.declared.rule.Rule.{Rule}
use Rattle.explain_rule.specs.declared.explanation.Breach.{Breach}
use Rattle.explain_rule.specs.declared.explanation.Breach.TheVariants.{Port, Bank}

abbrev pub rule_of : Breach → Rule
rule_of (Port port at rule) = rule
rule_of (Bank bank number rule) = rule
