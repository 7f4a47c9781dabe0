use Rattle.std.proofs.Common.{List, [], ◌∷◌, ◌++◌, ◌∙◌, ap}
use Rattle.lf_rules.specs.declared.mask.Mask.{Mask}
use Rattle.lf_rules.specs.Address.{Masks}
use Rattle.explain_rule.proofs.carried.one_mask.Goals as goal

pub returns : goal.returns
returns c =
    ap (λ (ms : List Mask). let masks : Masks = record { items = ms } in masks)
    (c.push.ensures.items ∙ ap (λ (ms : List Mask). ms ++ c.args.mask ∷ []) c.new-masks.ensures)
