use Rattle.lf_codec.proofs.TraceLaws.{faultless_bytes_are_traces}
use Rattle.lf_codec.proofs.laws.faultless_bytes.Goals as goal

pub returns : goal.returns
returns c = faultless_bytes_are_traces
