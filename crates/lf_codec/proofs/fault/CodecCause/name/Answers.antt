use Rattle.std.proofs.Common.{rules}
use Rattle.lf_codec.proofs.fault.CodecCause.name.Goals as goal

pub returns-in-Count : goal.returns-in-Count
returns-in-Count c = search rules
