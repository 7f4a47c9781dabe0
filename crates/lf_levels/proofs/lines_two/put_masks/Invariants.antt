use Rattle.std.proofs.Common.{ℕ, ◌≡◌, ◌<◌, length, get_or}
use Rattle.lf_rules.specs.Address.{clean_mask}
use Rattle.lf_levels.proofs.lines_two.put_masks.Given as goal

abbrev pub invariant-loop-i : goal.invariant-loop-i
invariant-loop-i l = record {
  count : length l.words ≡ length l.masks.items;
  before : (k : ℕ) → k < l.i → get_or l.words k 0 ≡ (get_or l.masks.items k clean_mask).0;
}
