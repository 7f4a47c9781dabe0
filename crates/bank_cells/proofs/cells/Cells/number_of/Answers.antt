use Rattle.std.proofs.Common.{◌∙◌}
use Rattle.bank_cells.specs.Cells.{memory_at}
use Rattle.bank_state.proofs.Bytes.{load_number}
use Rattle.bank_cells.proofs.cells.Cells.number_of.Goals as goal

pub returns-in-Load : goal.returns-in-Load
returns-in-Load c =
    load_number (memory_at c.args.self.now) c.args.request.now _ _ _ c.number_at.result c.in-Load.ensures
    c.number_at.ensures (c.from.ensures ∙ c.offset.ensures.value) (c.from-in-Load.ensures ∙ c.size.ensures)
    (c.bytes.ensures c.args.request.now.block c.requires)
