use Rattle.std.proofs.Common.{◌≡◌}
use Rattle.std.specs.List.{flat_map, range_with_len}
use Rattle.lf_rules.specs.Address.{sub_block, part_at}
use Rattle.lf_replay.specs.Looks.{OfStep}
use Rattle.explain_replay.specs.Carried.{filled}
use Rattle.explain_replay.proofs.carried.wide_filled.Given as goal

abbrev pub invariant-loop-place : goal.invariant-loop-place
invariant-loop-place l = OfStep l.step (λ shape now. l.all.items
    ≡ flat_map (λ place. filled shape now (sub_block shape l.second place) (part_at shape.block l.found.items place))
    (range_with_len 0 l.place))
