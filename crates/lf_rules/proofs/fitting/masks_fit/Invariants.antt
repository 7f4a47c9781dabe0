use Rattle.std.proofs.Common.{ℕ, ◌<◌, ◌^◌, slice_index_or}
use Rattle.lf_rules.specs.Address.{clean_mask}
use Rattle.lf_rules.proofs.fitting.masks_fit.Given as goal

abbrev pub invariant-loop-mask : goal.invariant-loop-mask
invariant-loop-mask l = (k : ℕ) → k < l.mask-index → (slice_index_or l.masks k clean_mask).0 < 2 ^ l.size
