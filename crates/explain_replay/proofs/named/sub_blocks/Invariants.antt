use Rattle.std.proofs.Common.{◌≡◌, map}
use Rattle.std.specs.List.{range_with_len}
use Rattle.lf_rules.specs.Address.{sub_block}
use Rattle.explain_replay.proofs.named.sub_blocks.Given as goal

abbrev pub invariant-loop-place : goal.invariant-loop-place
invariant-loop-place l = l.blocks.items ≡ map (sub_block l.shape l.second) (range_with_len 0 l.place)
