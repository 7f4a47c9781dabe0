use Rattle.std.proofs.Common.{arith}
use Rattle.std.proofs.lemmas.Grind.{common_steps}
use Rattle.lf_verdict.proofs.text.RingLogsDisplay.fmt.Goals as goal

pub loop-knot-preserved : goal.loop-knot-preserved
loop-knot-preserved g c = grind (arith, common_steps)
