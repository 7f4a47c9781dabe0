use Rattle.std.proofs.Common.{Ok, sym, ap, ◌∙◌}
use Rattle.text_parse.specs.Words.{without_blanks}
use Rattle.text_parse.specs.Lines.{line_from}
use Rattle.text_parse.proofs.PrintedLines.{line_again, same_line, no_fault}
use Rattle.text_parse.proofs.line.read_line.Goals as goal

pub returns-in-Ok-clause-again : goal.returns-in-Ok-clause-again
returns-in-Ok-clause-again c = λ line rest fits behind text.
    let read = c.line_from.ensures ∙ ap (line_from c.args.ports c.args.defaults.now)
    (c.without_blanks.ensures ∙ ap without_blanks text) in
    let again = read ∙ line_again c.args.ports c.args.defaults.now line rest fits behind in
    ap (λ l. Ok l) (same_line c.in-Ok.line line (sym c.in-Ok.is ∙ again))

pub returns-in-Err-clause-again : goal.returns-in-Err-clause-again
returns-in-Err-clause-again c = λ line rest fits behind text.
    let read = c.line_from.ensures ∙ ap (line_from c.args.ports c.args.defaults.now)
    (c.without_blanks.ensures ∙ ap without_blanks text) in
    let again = read ∙ line_again c.args.ports c.args.defaults.now line rest fits behind in
    absurd (no_fault line c.in-Err.lack (sym again ∙ c.in-Err.is))
