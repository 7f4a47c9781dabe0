use Rattle.std.proofs.Common.{ℕ, arith}
use Rattle.lf_join.specs.Join.{skeleton_lists}
use Rattle.lf_join.specs.Heads.{next_entry}
use Rattle.lf_join.specs.Standings.{standing_of}
use Rattle.lf_join.proofs.RosterLemmas.{one_placed}
use Rattle.lf_join.proofs.roster.Roster.new.Goals as goal

pub loop-log-init : goal.loop-log-init
loop-log-init c = (λ k lt. absurd (omega arith), λ k lt from. c.empty-roster.ensures k lt)

pub loop-log-preserved : goal.loop-log-preserved
loop-log-preserved c =
    let heads = c.args.heads.now in
    one_placed c.loop-log.roster c.settle.new.self c.loop-log.log
    (λ (k : ℕ). standing_of heads.next (next_entry (skeleton_lists c.args.skeletons.now) heads.places k))
    c.loop-log-test.true c.loop-log.invariant
    c.settle.ensures.settled c.settle.ensures.others
