use Rattle.std.proofs.Common.{◌-◌, ◌%◌, ◌∙◌, ap, bit_and}
use Rattle.std.proofs.lemmas.Nat.{and_mask}
use Rattle.bank_cells.specs.Cells.{CellsView}
use Rattle.bank_cells.proofs.Placed.{one_shifted}
use Rattle.bank_cells.proofs.cells.Cells.part_of.Goals as goal

pub returns-clause-value : goal.returns-clause-value
returns-clause-value c =
    ap (λ n. bit_and c.args.block (n - 1)) (one_shifted c.self.inside.shift c.self.invariant.0)
    ∙ and_mask c.args.block c.self.inside.shift
    ∙ ap (λ (v : CellsView). c.args.block % v.factor) c.self.view_is
