use Rattle.std.proofs.Common.{◌≡◌, ◌≤◌, ◌<◌, ℕ, length, None, vec_capacity, get_or}
use Rattle.std.specs.Prelude.{slice_get}
use Rattle.lf_pool.proofs.pool.unwrapped.Given as goal

abbrev pub invariant-loop-outcome : goal.invariant-loop-outcome
invariant-loop-outcome l = record {
  count : length l.all.items ≡ l.outcome-index;
  each : (i : ℕ) → i < length l.all.items → slice_get l.all.items i ≡ get_or l.outcome-items i None;
  room : length l.outcome-items ≤ vec_capacity l.all;
}
