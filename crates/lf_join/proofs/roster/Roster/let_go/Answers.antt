use Rattle.std.proofs.Common.{◌+◌, subst}
use Rattle.lf_join.specs.Join.{skeleton_lists}
use Rattle.lf_join.specs.Standings.{Nowhere, IsCalled}
use Rattle.lf_join.proofs.RosterLemmas.{stands_after, all_settled}
use Rattle.lf_join.proofs.roster.Roster.let_go.Goals as goal

pub settle-requires-clause-nowhere : goal.settle-requires-clause-nowhere
settle-requires-clause-nowhere c = c.call.ensures c.args.log Nowhere c.requires.log c.leave.ensures.nowhere

pub returns-clause-stand : goal.returns-clause-stand
returns-clause-stand c =
    let L = skeleton_lists c.args.skeletons.now in
    let old = c.args.heads.now in
    let new = c.advance-bank.new.self in
    let bank = c.advance-bank.result.0 in
    let number = c.advance-bank.result.1 in
    let gone = c.advance-bank.ensures in
    let r = c.requires in
    all_settled L old.places old.next new.places new.next c.args.log bank number r.goes gone.entry gone.gone r.sized
    r.own c.leave.new.self c.call.new.self c.settle.new.self r.log
    (stands_after L old.places old.next c.args.log c.args.self.now c.leave.new.self c.leave.ensures.others r.stand)
    (subst (λ n. IsCalled c.leave.new.self c.call.new.self bank (n + 1)) c.from.ensures c.call.ensures)
    c.settle.ensures.settled c.settle.ensures.others
