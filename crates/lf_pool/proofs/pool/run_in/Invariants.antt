use Rattle.std.proofs.Common.{◌≡◌, ◌≤◌, ◌+◌, length, vec_capacity}
use Rattle.std.specs.Prelude.{All}
use Rattle.std.specs.Vec.Iter.{into_iter_items, into_iter_len}
use Rattle.lf_pool.specs.Worked.{IsClaimer}
use Rattle.lf_pool.proofs.Joined.{IsFor}
use Rattle.lf_pool.proofs.pool.run_in.Given as goal

abbrev pub invariant-loop-claimer : goal.invariant-loop-claimer
invariant-loop-claimer g l = record {
  left : into_iter_len l.claimer-iterator ≡ length (into_iter_items l.claimer-iterator);
  own : All (IsClaimer l.shared.table_id) (into_iter_items l.claimer-iterator);
  count : length l.handles.items + length (into_iter_items l.claimer-iterator) + 1 ≡ length l.fn.claimers.items;
  room : length l.handles.items + length (into_iter_items l.claimer-iterator) ≤ vec_capacity l.handles;
  promises : All (λ h. IsFor l.jobs l.shared.table_id h.promise) l.handles.items;
}
