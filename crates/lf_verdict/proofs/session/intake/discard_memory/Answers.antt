use Rattle.std.proofs.Common.{◌++◌, option_to_list, ap, ◌∙◌}
use Rattle.lf_codec.specs.Reading.{Reading}
use Rattle.lf_verdict.proofs.session.intake.discard_memory.Goals as goal

pub loop-preserved : goal.loop-preserved
loop-preserved c = (
  c.take_memory.ensures.rest
      ∙ ap (λ (q : Reading). record q { memory = c.take_memory.new.self.memory }) c.loop.invariant.0,
  λ bytes memory records read.
      let m = c.loop.invariant.1 bytes memory records read in
      (m.0 ++ option_to_list c.take_memory.result, c.take_memory.ensures.taken bytes m.0 records m.1),
)
