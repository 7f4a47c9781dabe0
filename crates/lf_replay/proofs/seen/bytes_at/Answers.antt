use Rattle.std.proofs.Common.{sym, ◌∙◌}
use Rattle.lf_replay.proofs.AtCells.{no_bytes}
use Rattle.lf_replay.proofs.seen.bytes_at.Goals as goal

pub returns-in-None : goal.returns-in-None
returns-in-None c = no_bytes c.args.cells.now c.args.block (sym c.find.ensures ∙ c.in-None.is)
