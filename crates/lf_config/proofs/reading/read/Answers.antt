use Rattle.lf_config.proofs.Sound.{answered_in}
use Rattle.lf_config.proofs.reading.read.Goals as goal

pub returns-in-Ok-clause-in_range : goal.returns-in-Ok-clause-in_range
returns-in-Ok-clause-in_range c = answered_in _ _ c.judge.ensures
