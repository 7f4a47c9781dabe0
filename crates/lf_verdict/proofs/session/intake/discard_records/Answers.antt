use Rattle.std.proofs.Common.{◌++◌, option_to_list, ap, ◌∙◌}
use Rattle.lf_codec.specs.Reading.{Reading}
use Rattle.lf_verdict.proofs.session.intake.discard_records.Goals as goal

pub loop-preserved : goal.loop-preserved
loop-preserved c = (
  c.take.ensures.rest ∙ ap (λ (q : Reading). record q { records = c.take.new.self.records }) c.loop.invariant.0,
  λ bytes memory records read.
      let m = c.loop.invariant.1 bytes memory records read in
      (m.0 ++ option_to_list c.take.result, c.take.ensures.taken bytes memory m.0 m.1),
)
