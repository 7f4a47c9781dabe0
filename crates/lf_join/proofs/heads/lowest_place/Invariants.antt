use Rattle.std.proofs.Common.{◌<◌, ◌≤◌, ℕ, length, slice_index}
use Rattle.lf_join.proofs.heads.lowest_place.Given as goal

abbrev pub invariant-loop-place : goal.invariant-loop-place
invariant-loop-place l = (l.lowest < length l.logs) × ((k : ℕ) → k < l.place →
    slice_index l.logs l.lowest ≤ slice_index l.logs k)
