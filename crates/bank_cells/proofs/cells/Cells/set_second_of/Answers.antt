use Rattle.bank_cells.proofs.Placed.{place_of_cell}
use Rattle.bank_cells.proofs.Words.{second_written}
use Rattle.bank_cells.proofs.cells.Cells.set_second_of.Goals as goal

pub returns-clause-second : goal.returns-clause-second
returns-clause-second c = λ block is.
    second_written _ c.args.self.now c.self.view_is c.self.invariant.1 _ c.args.second _
    (place_of_cell _ c.args.self.now c.self.view_is c.self.invariant.1 c.args.cell block is)
