use Rattle.std.proofs.Common.{arith}
use Rattle.lf_join.specs.Join.{skeleton_lists}
use Rattle.lf_join.proofs.Merge.{past_all}
use Rattle.lf_join.proofs.OwnEntries.{first_goes, none_goes}
use Rattle.lf_join.proofs.RunOn.{runs_at_start}
use Rattle.lf_join.proofs.progress.Progress.run_on.Goals as goal

pub loop-log-init : goal.loop-log-init
loop-log-init c = record {
  run = rw (← c.self.view_is) (runs_at_start (record { places = c.self.inside.places; next = c.self.inside.next })
      (skeleton_lists c.args.left.now) c.self.invariant.0 c.self.invariant.1);
  stand = c.new-roster.ensures;
}

pub let_go-requires-clause-on : goal.let_go-requires-clause-on
let_go-requires-clause-on c = c.loop-log.invariant.run

pub let_go-requires-clause-stand : goal.let_go-requires-clause-stand
let_go-requires-clause-stand c = c.loop-log.invariant.stand

pub let_go-requires-clause-goes : goal.let_go-requires-clause-goes
let_go-requires-clause-goes c =
    let heads = c.loop-log.heads in
    first_goes (skeleton_lists c.args.left.now) heads.places heads.next c.loop-log.roster c.loop-log.invariant.stand
    c.in-Some.log c.in-Some.ensures

pub loop-log-smaller : goal.loop-log-smaller
loop-log-smaller c = c.let_go.ensures.fewer

pub loop-log-preserved : goal.loop-log-preserved
loop-log-preserved c = record { run = c.let_go.ensures.on; stand = c.let_go.ensures.stand }

pub returns-clause-stuck : goal.returns-clause-stuck
returns-clause-stuck c =
    let left = c.args.left.now in
    let heads = c.loop-log.heads in
    let few = c.requires.few in
    past_all left heads.places heads.next
    (λ log lt. none_goes (skeleton_lists left) heads.places heads.next c.loop-log.roster c.loop-log.invariant.stand
    c.in_default.ensures log (omega (arith, lt, few)))
