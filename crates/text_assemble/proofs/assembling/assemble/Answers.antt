use Rattle.std.proofs.Common.{◌∙◌, ap, rules}
use Rattle.text_assemble.specs.Assembly.{assembled_text, Assembles}
use Rattle.text_assemble.proofs.RoundTrip.{some_again, ends_so, fails_so}
use Rattle.text_assemble.proofs.assembling.assemble.Goals as goal

pub returns-in_err-lines-clause-only : goal.returns-in_err-lines-clause-only
returns-in_err-lines-clause-only c = λ bytes some text.
    let exact : Assembles c.from_residual.result (assembled_text c.args.text.now) = search rules in
    fails_so c.from_residual.result (assembled_text c.args.text.now) bytes exact
    (ap assembled_text text ∙ some_again bytes some)

pub returns-clause-again : goal.returns-clause-again
returns-clause-again c = λ bytes some text.
    let exact : Assembles c.end.result (assembled_text c.args.text.now) = search rules in
    ends_so c.end.result (assembled_text c.args.text.now) bytes exact (ap assembled_text text ∙ some_again bytes some)

pub returns-clause-only : goal.returns-clause-only
returns-clause-only c = λ bytes some text.
    let exact : Assembles c.end.result (assembled_text c.args.text.now) = search rules in
    fails_so c.end.result (assembled_text c.args.text.now) bytes exact (ap assembled_text text ∙ some_again bytes some)
