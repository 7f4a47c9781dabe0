use Rattle.lf_codec.proofs.Ends.{header_is_of_its_bytes}
use Rattle.lf_codec.proofs.laws.header_of_bytes.Goals as goal

pub returns : goal.returns
returns c = header_is_of_its_bytes
