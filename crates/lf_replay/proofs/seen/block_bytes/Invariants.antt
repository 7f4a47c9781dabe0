use Rattle.std.proofs.Common.{◌≡◌, map, slice_index}
use Rattle.std.specs.List.{range_with_len}
use Rattle.arrayvec.specs.ArrayVec.{array_vec_len}
use Rattle.lf_replay.proofs.seen.block_bytes.Given as goal

abbrev pub invariant-loop-i : goal.invariant-loop-i
invariant-loop-i l = record {
  read : l.bytes.items ≡ map (slice_index l.stored) (range_with_len 0 l.i);
  count : array_vec_len l.bytes ≡ l.i;
}
