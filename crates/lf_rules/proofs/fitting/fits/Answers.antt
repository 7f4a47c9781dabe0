use Rattle.std.proofs.Common.{rules}
use Rattle.lf_rules.proofs.fitting.fits.Goals as goal

pub returns-then-fits_log : goal.returns-then-fits_log
returns-then-fits_log c = search rules
