use Rattle.explain_origins.proofs.AsTheRules.{queues_are_of_the_rules}
use Rattle.explain_origins.proofs.laws.queues_are_of_the_rules.Goals as goal

pub returns : goal.returns
returns c = queues_are_of_the_rules
