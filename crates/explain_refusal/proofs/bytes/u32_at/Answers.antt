use Rattle.std.proofs.Common.{arith}
use Rattle.explain_refusal.proofs.Numbers.{halves_of_four}
use Rattle.explain_refusal.proofs.bytes.u32_at.Goals as goal

pub returns : goal.returns
returns c = omega (arith, halves_of_four c.args.bytes.now c.args.place)
