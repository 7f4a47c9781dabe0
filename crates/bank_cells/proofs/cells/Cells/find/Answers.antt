use Rattle.std.proofs.Common.{◌/◌, ◌^◌, ◌∙◌, ap, sym}
use Rattle.bank_cells.specs.Cells.{CellsView, place_of}
use Rattle.bank_cells.proofs.cells.Cells.find.Goals as goal

pub first_of-requires : goal.first_of-requires
first_of-requires c =
    let second = c.args.block / 2 ^ c.self.inside.shift in record {
      second = second;
      found = ap (λ (v : CellsView). place_of v second) (sym c.self.view_is) ∙ sym c.in-Some.ensures;
    }
