use Rattle.std.proofs.Common.{ℕ, List, [], ◌∷◌, ◌++◌, ◌∙◌, ap}
use Rattle.lf_rules.specs.declared.mask.Mask.{Mask}
use Rattle.explain_replay.proofs.Listed.{mask_or_clean}
use Rattle.explain_replay.proofs.expected.dirty_mask.Goals as goal

pub returns : goal.returns
returns c = λ shape memory bank rs stands.
    let seen = c.block_state.ensures shape memory bank rs stands in
    c.push.ensures.items ∙ ap (λ (ms : List Mask). ms ++ c.unwrap_or.result ∷ []) c.new-masks.ensures
    ∙ ap (λ (m : Mask). m ∷ []) c.unwrap_or.ensures
    ∙ ap (λ (n : ℕ). let m : Mask = record { 0 = n } in m ∷ []) (mask_or_clean c.block_state.result.line1 _ seen.line1)
