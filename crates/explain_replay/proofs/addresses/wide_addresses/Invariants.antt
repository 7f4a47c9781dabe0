use Rattle.std.proofs.Common.{◌≡◌}
use Rattle.std.specs.List.{flat_map, range_with_len}
use Rattle.lf_rules.specs.Address.{sub_block, mask_at}
use Rattle.explain_replay.specs.Addresses.{masked_addresses}
use Rattle.explain_replay.proofs.addresses.wide_addresses.Given as goal

abbrev pub invariant-loop-place : goal.invariant-loop-place
invariant-loop-place l = l.all.items
    ≡ flat_map (λ place. masked_addresses l.shape (sub_block l.shape l.second place) (mask_at l.masks place))
    (range_with_len 0 l.place)
