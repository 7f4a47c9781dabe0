use Rattle.std.proofs.Common.{◌≡◌, map}
use Rattle.std.specs.List.{range_with_len}
use Rattle.arrayvec.specs.ArrayVec.{array_vec_len}
use Rattle.lf_rules.specs.declared.mask.Mask.{Mask}
use Rattle.lf_rules.specs.Address.{mask_at}
use Rattle.explain_rule.specs.Carried.{beyond}
use Rattle.explain_rule.proofs.carried.all_beyond.Given as goal

abbrev pub invariant-loop-place : goal.invariant-loop-place
invariant-loop-place l = record {
  read : l.all.items ≡ map {B = Mask} (λ place. record {
    0 =
        beyond (mask_at l.masks place) (mask_at l.others place);
  }) (range_with_len 0 l.place);
  count : array_vec_len l.all ≡ l.place;
}
