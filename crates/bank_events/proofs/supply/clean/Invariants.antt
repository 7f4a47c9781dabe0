use Rattle.std.proofs.Common.{◌≡◌, ℕ, ◌*◌, Some}
use Rattle.bank_cells.specs.Cells.{IsPlacedAlike, place_of, first_at, written_at, dirty_at, memory_at, second_at}
use Rattle.bank_events.proofs.Supplied.{cleared}
use Rattle.bank_events.proofs.supply.clean.Given as goal

abbrev pub invariant-loop-part : goal.invariant-loop-part
invariant-loop-part l = record {
  dirty : (second : ℕ) → place_of l.initial.cells second ≡ Some l.place →
      dirty_at l.cells ≡ cleared (dirty_at l.initial.cells) (second * l.shape.factor) l.part;
  first : first_at l.cells ≡ first_at l.initial.cells;
  written : written_at l.cells ≡ written_at l.initial.cells;
  memory : memory_at l.cells ≡ memory_at l.initial.cells;
  second : second_at l.cells ≡ second_at l.initial.cells;
  placed : IsPlacedAlike l.initial.cells l.cells;
}
