use Rattle.std.proofs.Common.{◌≡◌, ℕ, ◌≤◌, ◌-◌, drop, length, bytes_eq, Some}
use Rattle.std.specs.List.{flat_map, range_with_len}
use Rattle.lf_rules.specs.Address.{wide_masked}
use Rattle.bank_state.proofs.Masked.{part_masked}
use Rattle.trace_views.specs.Views.{masks_of}
use Rattle.bank_cells.specs.Cells.{memory_at, place_of}
use Rattle.bank_cells.proofs.cells.Cells.wide_carries.Given as goal

abbrev pub invariant-loop-part : goal.invariant-loop-part
invariant-loop-part l = record {
  within : l.end ≤ length l.bytes;
  left : (second : ℕ) → place_of l.self second ≡ Some l.place
      → bytes_eq l.bytes (wide_masked l.shape (memory_at l.self) second (masks_of l.masks))
      ≡ bytes_eq (drop l.end l.bytes) (flat_map (part_masked l.shape (memory_at l.self) second (masks_of l.masks))
      (range_with_len l.part (l.shape.factor - l.part)));
}
