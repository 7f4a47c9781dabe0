use Rattle.std.proofs.Common.{refl}
use Rattle.json.specs.Print.{escape_byte}
use Rattle.explain_json.proofs.answer.not_read_json.Goals as goal

pub returns : goal.returns
unfolding escape_byte
returns c = refl
