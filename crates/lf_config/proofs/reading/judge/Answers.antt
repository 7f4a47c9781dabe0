use Rattle.std.proofs.Common.{rules}
use Rattle.lf_config.proofs.reading.judge.Goals as goal

pub returns-in-Some-first_misfit : goal.returns-in-Some-first_misfit
returns-in-Some-first_misfit c = search rules
