use Rattle.std.proofs.Common.{◌+◌, ◌<◌, sym, ◌∙◌, subst, arith}
use Rattle.lf_join.specs.Join.{skeleton_lists}
use Rattle.lf_join.specs.RunOn.{ahead_of}
use Rattle.lf_join.specs.Standings.{Nowhere, IsCalled}
use Rattle.lf_join.proofs.RosterLemmas.{stands_after, all_settled, others_called}
use Rattle.lf_join.proofs.RunOn.{runs_more, own_left, fewer_ahead}
use Rattle.lf_join.proofs.progress.Progress.let_go.Goals as goal

pub loop-bank-init : goal.loop-bank-init
loop-bank-init c = record {
  on = c.requires.on;
  goes = c.requires.goes;
  here = c.leave.ensures.nowhere;
  others = stands_after (skeleton_lists c.args.left.now) c.args.heads.now.places c.args.heads.now.next c.args.log
      c.args.roster.now c.leave.new.self c.leave.ensures.others c.requires.stand;
  fewer = omega arith;
}

pub advance-bank-requires-clause-goes : goal.advance-bank-requires-clause-goes
advance-bank-requires-clause-goes c = c.loop-bank.invariant.goes

pub loop-bank-smaller : goal.loop-bank-smaller
loop-bank-smaller c =
    let gone = c.advance-bank.ensures.gone in
    let len = c.loop-bank.invariant.on.places_len in
    let log = c.requires.log in
    rw gone.moved (fewer_ahead (skeleton_lists c.args.left.now) c.loop-bank.heads.places c.args.log gone.entry
    (omega (arith, len, log)) gone.there)

pub loop-bank-preserved : goal.loop-bank-preserved
loop-bank-preserved c =
    let left = skeleton_lists c.args.left.now in
    let heads = c.loop-bank.heads in
    let new = c.advance-bank.new.self in
    let bank = c.advance-bank.result.0 in
    let number = c.advance-bank.result.1 in
    let at = c.loop-bank.invariant in
    let gone = c.advance-bank.ensures in
    let logs = c.requires.reached in
    record {
      on = runs_more c.args.self.now left heads.places heads.next at.on c.args.log new.places new.next c.requires.log
          at.goes gone.gone;
      goes = sym c.can_go.ensures ∙ c.if-not-can_go.false;
      here = c.call.ensures c.args.log Nowhere c.requires.log at.here;
      others = others_called left heads.places heads.next new.places new.next c.args.log bank number at.goes gone.entry
          gone.gone at.on.next_len
          (own_left c.args.self.now left heads.places heads.next at.on logs.0 logs.1 logs.2 c.args.log at.goes)
          c.loop-bank.roster c.call.new.self at.others
          (subst (λ n. IsCalled c.loop-bank.roster c.call.new.self bank (n + 1)) c.from.ensures c.call.ensures);
      fewer =
          let less = fewer_ahead left heads.places c.args.log gone.gone.entry
          (let len = at.on.places_len in let log = c.requires.log in omega (arith, len, log)) gone.gone.there in
          let here : ahead_of left new.places < ahead_of left heads.places = rw gone.gone.moved less in
          let before = at.fewer in
          omega (arith, here, before);
    }

pub settle-requires-clause-nowhere : goal.settle-requires-clause-nowhere
settle-requires-clause-nowhere c = c.call.ensures c.args.log Nowhere c.requires.log c.loop-bank.invariant.here

pub returns-clause-on : goal.returns-clause-on
returns-clause-on c =
    let heads = c.loop-bank.heads in
    let new = c.advance-bank.new.self in
    let at = c.loop-bank.invariant in
    runs_more c.args.self.now (skeleton_lists c.args.left.now) heads.places heads.next at.on c.args.log new.places
    new.next c.requires.log at.goes c.advance-bank.ensures.gone

pub returns-clause-stand : goal.returns-clause-stand
returns-clause-stand c =
    let left = skeleton_lists c.args.left.now in
    let heads = c.loop-bank.heads in
    let new = c.advance-bank.new.self in
    let bank = c.advance-bank.result.0 in
    let number = c.advance-bank.result.1 in
    let at = c.loop-bank.invariant in
    let gone = c.advance-bank.ensures in
    let logs = c.requires.reached in
    all_settled left heads.places heads.next new.places new.next c.args.log bank number at.goes gone.entry gone.gone
    at.on.next_len
    (own_left c.args.self.now left heads.places heads.next at.on logs.0 logs.1 logs.2 c.args.log at.goes)
    c.loop-bank.roster c.call.new.self c.settle.new.self c.requires.log at.others
    (subst (λ n. IsCalled c.loop-bank.roster c.call.new.self bank (n + 1)) c.from.ensures c.call.ensures)
    c.settle.ensures.settled c.settle.ensures.others

pub returns-clause-fewer : goal.returns-clause-fewer
returns-clause-fewer c =
    let left = skeleton_lists c.args.left.now in
    let heads = c.loop-bank.heads in
    let new = c.advance-bank.new.self in
    let at = c.loop-bank.invariant in
    let gone = c.advance-bank.ensures.gone in
    let less = fewer_ahead left heads.places c.args.log gone.entry
    (let len = at.on.places_len in let log = c.requires.log in omega (arith, len, log)) gone.there in
    let here : ahead_of left new.places < ahead_of left heads.places = rw gone.moved less in
    let before = at.fewer in
    omega (arith, here, before)
