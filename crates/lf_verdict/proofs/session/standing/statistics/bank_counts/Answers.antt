use Rattle.std.proofs.Common.{arith}
use Rattle.lf_verdict.proofs.Statistics.{counts_more}
use Rattle.lf_verdict.proofs.session.standing.statistics.bank_counts.Goals as goal

pub loop-judge-preserved : goal.loop-judge-preserved
loop-judge-preserved c =
    counts_more c.args.banks.now c.loop-judge.counts.items c.push.new.self.items c.loop-judge.judge-index
    c.judge-item.result c.in-Some.count c.stats.result (omega (arith, c.loop-judge-test.true)) c.judge-item.is
    c.in-Some.is c.stats.ensures c.in_ok-push.ensures.items c.loop-judge.invariant
