use Rattle.wave_traffic.proofs.Rules.{flows_are_of_the_rules}
use Rattle.wave_traffic.proofs.laws.flows_are_of_the_rules.Goals as goal

pub returns : goal.returns
returns c = flows_are_of_the_rules
