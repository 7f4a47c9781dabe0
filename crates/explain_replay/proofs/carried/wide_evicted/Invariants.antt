use Rattle.std.proofs.Common.{◌≡◌}
use Rattle.std.specs.List.{flat_map, range_with_len}
use Rattle.lf_rules.specs.Address.{sub_block, block_bytes, masked, mask_at}
use Rattle.lf_replay.specs.Looks.{OfStep}
use Rattle.explain_replay.proofs.carried.wide_evicted.Given as goal

abbrev pub invariant-loop-place : goal.invariant-loop-place
invariant-loop-place l = OfStep l.step (λ shape now. l.all.items
    ≡ flat_map (λ place. masked (block_bytes shape now.memory (sub_block shape l.second place))
    (mask_at l.masks place)) (range_with_len 0 l.place))
