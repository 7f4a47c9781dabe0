use Rattle.std.proofs.Common.{◌≡◌, ◌*◌, ◌%◌, ◌^◌, arith}
use Rattle.bank_cells.proofs.Placed.{part_cell, place_below}
use Rattle.bank_cells.proofs.cells.Cells.first_of.Goals as goal

pub returns-clause-cells : goal.returns-clause-cells
returns-clause-cells c =
    let below = place_below _ c.args.self.now c.self.view_is c.self.invariant.1 c.args.place c.requires in
    let same : c.args.place * 2 ^ c.self.inside.shift % 18446744073709551616 ≡ c.args.place * 2 ^ c.self.inside.shift =
    omega (arith, below, c.self.inside.cells.ok.0, c.self.inside.cells.ok.1) in
    part_cell _ c.args.self.now c.self.view_is c.self.invariant.1 c.args.place _ same
