use Rattle.lf_join.proofs.RosterLemmas.{one_woken}
use Rattle.lf_join.proofs.roster.Roster.call.Goals as goal

pub loop-log-preserved-then-self-log : goal.loop-log-preserved-then-self-log
loop-log-preserved-then-self-log c =
    one_woken c.args.self.now c.loop-log.self c.args.bank c.args.number c.loop-log.called c.pop.new.self
    c.in-Some.log c.loop-log.invariant c.in-Some.ensures.lowest c.in-Some.ensures.taken c.wake.new.self
    c.if-self-log.true c.wake.ensures.woken c.wake.ensures.others
