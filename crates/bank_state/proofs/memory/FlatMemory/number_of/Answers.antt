use Rattle.std.proofs.Common.{◌∙◌}
use Rattle.bank_state.specs.Bytes.{flat_of}
use Rattle.bank_state.proofs.Bytes.{load_number}
use Rattle.bank_state.proofs.memory.FlatMemory.number_of.Goals as goal

pub returns-in-Load : goal.returns-in-Load
returns-in-Load c =
    load_number (flat_of c.args.self.now) c.args.request.now _ _ _ c.number_at.result c.in-Load.ensures
    c.number_at.ensures (c.from.ensures ∙ c.offset.ensures.value) (c.from-in-Load.ensures ∙ c.size.ensures)
    (rw c.block.ensures at c.bytes_of.ensures)
