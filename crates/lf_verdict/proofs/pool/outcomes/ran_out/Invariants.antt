use Rattle.lf_verdict.specs.inner.Jobs.{NoneRanOut}
use Rattle.lf_verdict.proofs.pool.outcomes.ran_out.Given as goal

abbrev pub invariant-loop-outcome : goal.invariant-loop-outcome
invariant-loop-outcome l = NoneRanOut l.all l.outcome-index
