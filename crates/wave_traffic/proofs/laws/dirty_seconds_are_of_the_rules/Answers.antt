use Rattle.wave_traffic.proofs.Standing.{dirty_seconds_are_of_the_rules}
use Rattle.wave_traffic.proofs.laws.dirty_seconds_are_of_the_rules.Goals as goal

pub returns : goal.returns
returns c = dirty_seconds_are_of_the_rules
