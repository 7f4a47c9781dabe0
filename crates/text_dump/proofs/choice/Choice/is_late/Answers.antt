use Rattle.std.proofs.Common.{rules}
use Rattle.text_dump.proofs.choice.Choice.is_late.Goals as goal

pub returns-in-Some : goal.returns-in-Some
returns-in-Some c = search rules
