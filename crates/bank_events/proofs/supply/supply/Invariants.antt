use Rattle.std.proofs.Common.{◌≡◌, ℕ, ◌*◌, Some, drop}
use Rattle.bank_cells.specs.Cells.{IsPlacedAlike, place_of, first_at, written_at, dirty_at, memory_at, second_at}
use Rattle.bank_events.specs.Wide.{supplied_by}
use Rattle.bank_events.proofs.supply.supply.Given as goal

abbrev pub invariant-loop-target : goal.invariant-loop-target
invariant-loop-target l = record {
  first : (second : ℕ) → place_of l.initial.cells second ≡ Some l.place →
      supplied_by (second * l.initial.cells.factor) (first_at l.cells) (drop l.target-index l.targets)
      ≡ supplied_by (second * l.initial.cells.factor) (first_at l.initial.cells) l.targets;
  written : written_at l.cells ≡ written_at l.initial.cells;
  dirty : dirty_at l.cells ≡ dirty_at l.initial.cells;
  memory : memory_at l.cells ≡ memory_at l.initial.cells;
  second : second_at l.cells ≡ second_at l.initial.cells;
  placed : IsPlacedAlike l.initial.cells l.cells;
}
