use Rattle.std.proofs.Common.{arith}
use Rattle.bank_cells.proofs.Placed.{place_within}
use Rattle.bank_cells.proofs.Words.{second_read}
use Rattle.bank_cells.proofs.cells.Cells.second.Goals as goal

pub index-requires : goal.index-requires
index-requires c =
    let within = place_within _ c.args.self.now c.self.view_is c.self.invariant.1 c.args.at c.requires in
    omega (arith, within, c.self.inside.seconds.ok.0)

pub returns : goal.returns
returns c =
    second_read _ c.args.self.now c.self.view_is c.self.invariant.1 c.args.at
    (place_within _ c.args.self.now c.self.view_is c.self.invariant.1 c.args.at c.requires)
    c.index.result.now c.index.ensures
