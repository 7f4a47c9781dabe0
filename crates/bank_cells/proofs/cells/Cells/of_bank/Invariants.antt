use Rattle.std.proofs.Common.{◌≡◌, drop, length, ◌≤◌}
use Rattle.lf_rules.specs.Address.{flat_memory}
use Rattle.bank_state.specs.Bytes.{bank_part}
use Rattle.bank_cells.specs.Cells.{IsUntouched, memory_at}
use Rattle.bank_cells.proofs.cells.Cells.of_bank.Given as goal

abbrev pub invariant-loop-left : goal.invariant-loop-left
invariant-loop-left l = record {
  within : l.left ≤ length l.memory;
  held : memory_at l.cells ≡ bank_part l.shape l.bank (flat_memory (drop l.left l.memory));
  others : IsUntouched l.cells;
  factor : l.cells.factor ≡ l.shape.factor;
}

abbrev pub decreases-loop-left : goal.decreases-loop-left
decreases-loop-left l = l.left
