use Rattle.std.proofs.Common.{◌≡◌, ℕ, ◌<◌, ◌||◌, ◌==◌, true, slice_index}
use Rattle.lf_rules.specs.Address.{is_under}
use Rattle.lf_rules.proofs.mask.slices_agree_off.Given as goal

abbrev pub invariant-loop-i : goal.invariant-loop-i
invariant-loop-i l = (k : ℕ) → k < l.i → (is_under l.mask.0 k || slice_index l.a k == slice_index l.b k) ≡ true
