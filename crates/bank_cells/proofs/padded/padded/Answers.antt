use Rattle.std.proofs.Common.{◌∙◌}
use Rattle.bank_state.proofs.Bytes.{padded_is, zeros}
use Rattle.bank_cells.proofs.padded.padded.Goals as goal

pub returns : goal.returns
returns c = c.put.ensures ∙ padded_is _ c.args.bytes.now (zeros 64)
