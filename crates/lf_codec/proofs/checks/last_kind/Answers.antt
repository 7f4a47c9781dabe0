use Rattle.std.proofs.Common.{rules}
use Rattle.lf_codec.proofs.checks.last_kind.Goals as goal

pub returns : goal.returns
returns c = search rules
