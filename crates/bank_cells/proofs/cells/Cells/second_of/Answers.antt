use Rattle.bank_cells.proofs.Placed.{place_of_cell, place_within}
use Rattle.bank_cells.proofs.Words.{second_read}
use Rattle.bank_cells.proofs.cells.Cells.second_of.Goals as goal

pub returns : goal.returns
returns c = λ block is.
    let at = place_of_cell _ c.args.self.now c.self.view_is c.self.invariant.1 c.args.cell block is in
    second_read _ c.args.self.now c.self.view_is c.self.invariant.1 _
    (place_within _ c.args.self.now c.self.view_is c.self.invariant.1 _ (record { second = _; found = at }))
    c.index.result.now c.index.ensures _ at
