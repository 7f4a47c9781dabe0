use Rattle.std.proofs.Common.{◌≡◌, ℕ, ◌<◌, true, Some}
use Rattle.trace_views.specs.Views.{masks_of}
use Rattle.bank_cells.specs.Cells.{place_of}
use Rattle.bank_events.specs.Wide.{part_dirty}
use Rattle.bank_events.proofs.leaving.are_dirty.Given as goal

abbrev pub invariant-loop-part : goal.invariant-loop-part
invariant-loop-part l = (second : ℕ) → place_of l.cells second ≡ Some l.place → (k : ℕ) → k < l.part
    → part_dirty l.shape l.cells second (masks_of l.masks) k ≡ true
