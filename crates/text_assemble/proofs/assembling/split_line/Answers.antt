use Rattle.std.proofs.Common.{arith}
use Rattle.text_assemble.proofs.Cuts.{last_cut, more_cut}
use Rattle.text_assemble.proofs.assembling.split_line.Goals as goal

pub returns-in-empty-clause-lines : goal.returns-in-empty-clause-lines
returns-in-empty-clause-lines c =
    last_cut c.args.text.now c.split_at.result.0.now c.split_at.result.1.now c.line_len.result c.line_len.ensures.value
    c.split_at.ensures.front c.split_at.ensures.back (omega arith)

pub returns-in-len1-up-clause-lines : goal.returns-in-len1-up-clause-lines
returns-in-len1-up-clause-lines c =
    more_cut c.args.text.now c.split_at.result.0.now c.split_at.result.1.now c.line_len.result c.line_len.ensures.value
    c.split_at.ensures.front c.split_at.ensures.back (omega arith)
