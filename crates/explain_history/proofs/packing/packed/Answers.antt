use Rattle.std.proofs.Common.{List, [], ◌∷◌, ◌++◌, take, sym, ap, ◌∙◌}
use Rattle.std.proofs.lemmas.List.{take_more}
use Rattle.lf_rules.specs.declared.event.Record.{Record}
use Rattle.explain_history.proofs.packing.packed.Goals as goal

pub loop-item-preserved : goal.loop-item-preserved
loop-item-preserved c =
    let rs = c.args.records.now in
    let i = c.loop-item.item-index in
    let item = c.item-item.result in
    c.in_ok-pack.ensures
    ∙ ap (λ (xs : List Record). xs ++ item ∷ []) c.loop-item.invariant
    ∙ ap (λ (x : Record). take i rs ++ x ∷ []) c.item-item.is
    ∙ sym (take_more rs i item c.loop-item-test.true)
