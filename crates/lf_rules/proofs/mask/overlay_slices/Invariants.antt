use Rattle.std.proofs.Common.{◌≡◌, ℕ, ◌<◌, length, slice_index}
use Rattle.lf_rules.specs.Address.{overlay}
use Rattle.lf_rules.proofs.mask.overlay_slices.Given as goal

abbrev pub invariant-loop-i : goal.invariant-loop-i
invariant-loop-i l = record {
  len : length l.bytes.items ≡ l.i;
  bytes : (k : ℕ) → k < l.i → slice_index l.bytes.items k ≡ overlay (slice_index l.old) (slice_index l.new) l.mask.0 k;
}
