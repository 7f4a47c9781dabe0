use Rattle.std.proofs.Common.{◌≡◌, ℕ, ◌<◌, true, Some}
use Rattle.bank_cells.specs.Cells.{place_of}
use Rattle.bank_events.specs.Wide.{part_agrees}
use Rattle.bank_events.proofs.carried.wide_agrees.Given as goal

abbrev pub invariant-loop-part : goal.invariant-loop-part
invariant-loop-part l = (second : ℕ) → place_of l.cells second ≡ Some l.place → (k : ℕ) → k < l.part
    → part_agrees l.shape l.cells second l.bytes k ≡ true
