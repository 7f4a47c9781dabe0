use Rattle.lf_codec.proofs.Faults.{what_is_read_is_given}
use Rattle.lf_codec.proofs.laws.given.Goals as goal

pub returns : goal.returns
returns c = what_is_read_is_given
