use Rattle.std.proofs.Common.{◌∙◌}
use Rattle.lf_verdict.proofs.Settled.{none_broken_more}
use Rattle.lf_verdict.proofs.broken_part.first_broken.Goals as goal

pub loop-part-preserved : goal.loop-part-preserved
loop-part-preserved g c =
    none_broken_more g.P.Part.outcome_of c.args.parts.now c.loop-part.part c.index-parts-part.result
    c.loop-part-test.true c.index-parts-part.is
    (λ n rule e. c.in_default.not-Broken n rule (c.outcome.ensures ∙ e)) c.loop-part.invariant
