use Rattle.lf_rules.proofs.Outcomes.{outcomes_are_one, runs_or_breaks}
use Rattle.lf_rules.proofs.laws.outcomes_are_one.Goals as goal

pub returns-clause-one : goal.returns-clause-one
returns-clause-one c = outcomes_are_one

pub returns-clause-each : goal.returns-clause-each
returns-clause-each c = runs_or_breaks
