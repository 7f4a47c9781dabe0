use Rattle.lf_logs.specs.Tallies.{AreOnceBelow}
use Rattle.lf_logs.proofs.order.judge.Given as goal

abbrev pub invariant-loop-k : goal.invariant-loop-k
invariant-loop-k l = AreOnceBelow l.k l.tallies
