use Rattle.bank_cells.proofs.Words.{second_written}
use Rattle.bank_cells.proofs.cells.Cells.set_second.Goals as goal

pub returns-clause-second : goal.returns-clause-second
returns-clause-second c =
    second_written _ c.args.self.now c.self.view_is c.self.invariant.1 c.args.place c.args.second
