use Rattle.std.proofs.Common.{arith}
use Rattle.lf_verdict.proofs.Statistics.{unanswered_more}
use Rattle.lf_verdict.proofs.session.standing.statistics.port_counts.Goals as goal

pub loop-judge-preserved : goal.loop-judge-preserved
loop-judge-preserved c =
    let inv = c.loop-judge.invariant in
    let more = unanswered_more c.args.ports.now c.loop-judge.counts.items c.push.new.self.items
    c.loop-judge.judge-index c.judge-item.result c.unanswered.result (omega (arith, c.loop-judge-test.true))
    c.judge-item.is c.unanswered.ensures c.in_ok-push.ensures.items inv.count (λ port e d. inv.each port e d) in
    record { count = more.0; each = λ port e d shape log lt. more.1 port e lt d shape log }
