use Rattle.std.proofs.Common.{◌∙◌}
use Rattle.explain_replay.specs.Carried.{off_mask}
use Rattle.explain_replay.proofs.carried.filled.Goals as goal

pub returns : goal.returns
returns c = λ shape memory bank rs stands.
    let seen = c.block_state-state.ensures shape memory bank rs stands in
    c.off_mask.ensures ∙ (λ i. off_mask (seen.stores i) ((c.deref.ensures.0 ∙ seen.bytes) i) c.args.found.now)
