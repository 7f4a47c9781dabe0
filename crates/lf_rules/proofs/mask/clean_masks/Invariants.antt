use Rattle.std.proofs.Common.{◌≡◌, replicate}
use Rattle.arrayvec.specs.ArrayVec.{array_vec_len}
use Rattle.lf_rules.specs.Address.{clean_mask}
use Rattle.lf_rules.proofs.mask.clean_masks.Given as goal

abbrev pub invariant-loop : goal.invariant-loop
invariant-loop l = record {
  items : l.masks.items ≡ replicate l.counter clean_mask;
  count : array_vec_len l.masks
      ≡ l.counter;
}
