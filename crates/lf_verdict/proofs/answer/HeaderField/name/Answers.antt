use Rattle.std.proofs.Common.{rules}
use Rattle.lf_verdict.proofs.answer.HeaderField.name.Goals as goal

pub returns-in-Factor : goal.returns-in-Factor
returns-in-Factor c = search rules
