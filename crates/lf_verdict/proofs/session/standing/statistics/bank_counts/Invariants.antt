use Rattle.lf_verdict.specs.inner.Counting.{AreCountsOf}
use Rattle.lf_verdict.proofs.session.standing.statistics.bank_counts.Given as goal

abbrev pub invariant-loop-judge : goal.invariant-loop-judge
invariant-loop-judge l = AreCountsOf l.judge-index l.banks l.counts.items
