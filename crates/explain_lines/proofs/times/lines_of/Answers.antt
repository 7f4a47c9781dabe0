use Rattle.std.proofs.Common.{◌∙◌, ap}
use Rattle.std.proofs.lemmas.Iterator.Consumers.{YieldsList-end}
use Rattle.std.proofs.lemmas.Iterator.Splits.{YieldsList-from_lines}
use Rattle.explain_lines.specs.Steps.{texts}
use Rattle.explain_lines.proofs.times.lines_of.Goals as goal

pub returns : goal.returns
returns c =
    let seen = YieldsList-end (YieldsList-from_lines c.args.text.now cc) c.loop-line.yielded _ c.loop-line.yielded_by _
    _ c.in-None.is c.next.ensures.steps in
    ap texts c.loop-line.invariant ∙ seen.0
