use Rattle.std.proofs.Common.{ℕ, List, ap, ◌∙◌}
use Rattle.lf_rules.specs.Address.{masked}
use Rattle.explain_replay.proofs.carried.evicted.Goals as goal

pub returns : goal.returns
returns c = λ shape memory bank rs stands.
    let seen = c.block_state-state.ensures shape memory bank rs stands in
    c.masked.ensures ∙ ap (λ (bytes : List ℕ). masked bytes c.args.mask.0) (c.deref.ensures.0 ∙ seen.bytes)
