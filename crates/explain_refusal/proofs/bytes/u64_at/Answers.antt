use Rattle.std.proofs.Common.{arith}
use Rattle.explain_refusal.proofs.Numbers.{halves_of_eight}
use Rattle.explain_refusal.proofs.bytes.u64_at.Goals as goal

pub returns : goal.returns
returns c = omega (arith, halves_of_eight c.args.bytes.now c.args.place)
