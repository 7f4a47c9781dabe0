use Rattle.std.proofs.Common.{take, ap, ◌∙◌, arith}
use Rattle.bank_state.proofs.Bytes.{part_read, part_of_eight}
use Rattle.bank_cells.proofs.bytes.part.Goals as goal

pub returns-then-offset-le64 : goal.returns-then-offset-le64
returns-then-offset-le64 c = c.truncate.ensures.items
    ∙ ap (take c.args.size) (c.from-data.ensures.0 ∙ c.eight_at.ensures)
    ∙ part_of_eight c.args.bytes.now c.args.offset c.args.size
    (omega (arith, c.told-bytes, c.if-offset-le64.true)) c.requires.small

pub returns : goal.returns
returns c = c.data_of.ensures ∙ part_read c.args.bytes.now c.args.offset c.args.size
    (omega (arith, c.told-bytes, c.requires.within))
