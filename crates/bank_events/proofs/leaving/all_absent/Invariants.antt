use Rattle.std.proofs.Common.{◌≡◌, ℕ, ◌<◌, true, Some}
use Rattle.bank_cells.specs.Cells.{place_of}
use Rattle.bank_events.specs.Wide.{part_absent}
use Rattle.bank_events.proofs.leaving.all_absent.Given as goal

abbrev pub invariant-loop-part : goal.invariant-loop-part
invariant-loop-part l = (second : ℕ) → place_of l.cells second ≡ Some l.place → (k : ℕ) → k < l.part
    → part_absent l.shape l.cells second k ≡ true
