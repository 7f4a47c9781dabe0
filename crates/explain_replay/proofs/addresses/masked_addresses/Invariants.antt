use Rattle.std.proofs.Common.{◌≡◌, ◌+◌, ◌*◌, ◌≤◌, map}
use Rattle.std.specs.List.{range_with_len, filter}
use Rattle.arrayvec.specs.ArrayVec.{array_vec_len}
use Rattle.lf_rules.specs.Address.{is_under}
use Rattle.explain_replay.proofs.addresses.masked_addresses.Given as goal

abbrev pub invariant-loop-place : goal.invariant-loop-place
invariant-loop-place l = record {
  taken : l.addresses.items ≡ map (λ place. l.block * l.shape.block + place)
      (filter (is_under l.mask.0) (range_with_len 0 l.place));
  count : array_vec_len l.addresses ≤ l.place;
}
