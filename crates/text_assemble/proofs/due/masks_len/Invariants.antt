use Rattle.std.proofs.Common.{◌≡◌, ◌≤◌, ◌*◌, take}
use Rattle.lf_rules.specs.Fits.{masks_len}
use Rattle.text_assemble.proofs.due.masks_len.Given as goal

abbrev pub invariant-loop-mask : goal.invariant-loop-mask
invariant-loop-mask l = record {
  sum : l.len ≡ masks_len (take l.mask-index l.masks.items);
  few : l.len ≤ 64 *
      l.mask-index;
}
