use Rattle.std.proofs.Common.{◌≡◌, ◌++◌, take}
use Rattle.std.specs.List.{flat_map}
use Rattle.lf_codec.specs.Layout.{mask_bytes}
use Rattle.text_assemble.proofs.spelling.put_masks.Given as goal

abbrev pub invariant-loop-mask : goal.invariant-loop-mask
invariant-loop-mask l = l.out.items ≡ l.initial.out.items ++ flat_map mask_bytes (take l.mask-index l.masks.items)
