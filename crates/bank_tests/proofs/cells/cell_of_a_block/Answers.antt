use Rattle.std.proofs.Common.{◌∙◌}
use Rattle.bank_tests.proofs.cells.cell_of_a_block.Goals as goal

pub first-requires-2 : goal.first-requires-2
first-requires-2 g c = record {
  block = 7;
  found = (λ i. c.set_first.ensures.placed.cells i 7) ∙ c.in_ok-cell.ensures.cell;
}
