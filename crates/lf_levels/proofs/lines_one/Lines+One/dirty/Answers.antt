use Rattle.std.proofs.Common.{rules}
use Rattle.lf_levels.proofs.lines_one.Lines+One.dirty.Goals as goal

pub returns-in-Some-clause-value : goal.returns-in-Some-clause-value
returns-in-Some-clause-value c = search rules
