use Rattle.std.proofs.Common.{rules}
use Rattle.text_dump.proofs.choice.Choice.fits_record.Goals as goal

pub returns-then-agrees-3 : goal.returns-then-agrees-3
returns-then-agrees-3 c = search rules
