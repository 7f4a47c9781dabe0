use Rattle.std.proofs.Common.{◌∙◌}
use Rattle.bank_state.specs.Bytes.{flat_of}
use Rattle.bank_state.proofs.Bytes.{value_read}
use Rattle.bank_state.proofs.memory.FlatMemory.value_of.Goals as goal

pub returns-in-Load : goal.returns-in-Load
returns-in-Load c =
    value_read (flat_of c.args.self.now) c.args.request.now _ _ _ _ c.in-Load.ensures c.part.ensures
    (c.from.ensures ∙ c.offset.ensures.value) (c.from-in-Load.ensures ∙ c.size.ensures)
    (rw c.block.ensures at c.bytes_of.ensures)
