use Rattle.std.proofs.Common.{◌∙◌, sym}
use Rattle.bank_tests.proofs.cells.place_of_a_second_level_block.Goals as goal

pub second-requires : goal.second-requires
second-requires g c = record {
  second = 3;
  found = (λ i. c.set_second.ensures.placed.places i 3) ∙ sym c.find_second.ensures ∙ c.in-Some.is;
}

pub second_of-requires : goal.second_of-requires
second_of-requires g c = record {
  block = 7;
  found = (λ i. c.set_second.ensures.placed.cells i 7) ∙ c.in_ok-cell.ensures.cell;
}
