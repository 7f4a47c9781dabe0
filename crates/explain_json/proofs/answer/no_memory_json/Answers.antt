use Rattle.std.proofs.Common.{refl}
use Rattle.json.specs.Print.{escape_byte}
use Rattle.explain_json.proofs.answer.no_memory_json.Goals as goal

pub returns : goal.returns
unfolding escape_byte
returns c = refl
