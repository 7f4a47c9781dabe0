use Rattle.std.proofs.Common.{◌≡◌, map}
use Rattle.std.specs.List.{range_with_len}
use Rattle.arrayvec.specs.ArrayVec.{array_vec_len}
use Rattle.explain_replay.specs.Carried.{judged_or_found}
use Rattle.explain_replay.proofs.carried.off_mask.Given as goal

abbrev pub invariant-loop-i : goal.invariant-loop-i
invariant-loop-i l = record {
  read : l.all.items ≡ map (judged_or_found l.mask.0 l.bytes l.found) (range_with_len 0 l.i);
  count : array_vec_len l.all ≡ l.i;
}
