use Rattle.std.proofs.Common.{arith}
use Rattle.bank_cells.specs.declared.cell.Cell.{Cell}
use Rattle.bank_cells.proofs.Placed.{cell_within}
use Rattle.bank_cells.proofs.Words.{word_read}
use Rattle.bank_cells.proofs.cells.Cells.dirty.Goals as goal

pub index-requires : goal.index-requires
index-requires c =
    let within = cell_within _ c.args.self.now c.self.view_is c.self.invariant.1 c.args.cell c.requires in
    omega (arith, within, c.self.inside.cells.ok.0)

pub returns : goal.returns
returns c =
    word_read (λ (k : Cell). k.dirty) _ c.args.self.now c.self.view_is c.self.invariant.1 c.args.cell c.requires
    c.index.result.now c.index.ensures
