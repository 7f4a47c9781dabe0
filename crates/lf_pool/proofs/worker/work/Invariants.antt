use Rattle.std.proofs.Common.{◌≡◌, ◌<◌, ◌+◌, ◌-◌, [], map}
use Rattle.std.specs.Prelude.{All, Any}
use Rattle.lf_pool.specs.declared.rule.View.TheVariants.{Worker}
use Rattle.lf_pool.specs.Worked.{number_of, IsDone}
use Rattle.lf_pool.proofs.worker.work.Given as goal

abbrev pub invariant-jobs : goal.invariant-jobs
invariant-jobs g l = record {
  own : l.seat.table_id ≡ l.shared.table_id;
  view : l.seat.me ≡ (Worker l.number (map number_of l.done.items), []);
  done : All (IsDone g.P.Replays.may_give l.jobs) l.done.items;
  low : 0 < l.low → Any (λ p. p.0 + 1 ≡ l.low) l.done.items;
}

abbrev pub decreases-jobs : goal.decreases-jobs
decreases-jobs g l = l.count - l.low
