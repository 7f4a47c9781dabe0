use Rattle.std.proofs.Common.{get_or, ap, ◌∙◌}
use Rattle.explain_lines.specs.Map.{time_of}
use Rattle.wave_order.specs.Times.{number_told, at_number}
use Rattle.wave_order.proofs.Axis.{axis_more}
use Rattle.wave_order.proofs.clock.Clock.new.Goals as goal

pub loop-log-preserved : goal.loop-log-preserved
loop-log-preserved c =
    let logs = c.args.logs.now in
    let i = c.loop-log.log-index in
    let told = c.of-time.ensures ∙ ap (time_of c.args.times (get_or logs i 0)) c.of.ensures in
    axis_more c.args.times c.loop-log.counts.0 c.loop-log.least logs i c.at_number-place.result
    c.saturating_add-least.result c.take.new.self.0 c.loop-log.at.items c.push.new.self.items c.loop-log-test.true
    (c.at_number-place.ensures ∙ ap (at_number c.loop-log.least) (c.number_told.ensures ∙ ap number_told told))
    c.take.ensures c.saturating_add-least.ensures c.in_ok-push.ensures.items
    ∙ c.loop-log.invariant
