use Rattle.std.proofs.Common.{◌≡◌, map}
use Rattle.std.specs.List.{range_with_len}
use Rattle.arrayvec.specs.ArrayVec.{array_vec_len}
use Rattle.lf_replay.specs.Seen.{mask_in}
use Rattle.lf_replay.proofs.seen.masks_in.Given as goal

abbrev pub invariant-loop-place : goal.invariant-loop-place
invariant-loop-place l = record {
  read : l.masks.items ≡ map (mask_in l.shape l.cells l.second) (range_with_len 0 l.place);
  count : array_vec_len l.masks ≡ l.place;
}
