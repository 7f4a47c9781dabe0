use Rattle.lf_codec.proofs.Faults.{what_is_read_fits}
use Rattle.lf_codec.proofs.laws.read_so_far.Goals as goal

pub returns : goal.returns
returns c = what_is_read_fits
