use Rattle.std.proofs.Common.{rules}
use Rattle.lf_codec.proofs.fitting.fits_trace.Goals as goal

pub returns-then-records_fit : goal.returns-then-records_fit
returns-then-records_fit c = search rules
