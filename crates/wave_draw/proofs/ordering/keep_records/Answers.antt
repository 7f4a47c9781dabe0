use Rattle.std.proofs.Common.{◌≡◌, ◌++◌, ◌∷◌, List, [], rules, sym, subst, ap, ◌∙◌, append_assoc, append-nil}
use Rattle.lf_rules.specs.declared.event.Record.{Record}
use Rattle.wave_order.specs.Left.{HasLeft}
use Rattle.wave_draw.proofs.ordering.keep_records.Goals as goal

pub loop-item-preserved : goal.loop-item-preserved
loop-item-preserved c = record {
  reader = search rules;
  kept = λ gone records has.
      let was = c.loop-item.invariant.kept gone records has in
      let item = c.in-Some.item in
      let first : c.loop-item.reader.records ≡ item ∷ c.take.new.self.records = c.in-Some.ensures.first in (
        was.0 ++ item ∷ [],
        c.in_ok-push.ensures gone was.0 was.1,
        append_assoc was.0 (item ∷ []) c.take.new.self.records ∙ ap (λ (l : List Record). was.0 ++ l) (sym first)
            ∙ was.2,
      );
}

pub returns-clause-kept : goal.returns-clause-kept
returns-clause-kept c gone records has =
    let was = c.loop-item.invariant.kept gone records has in
    let none : c.loop-item.reader.records ≡ [] = c.in_default.ensures.none in
    subst (HasLeft c.loop-item.left gone)
    (sym (append-nil was.0) ∙ ap (λ (l : List Record). was.0 ++ l) (sym none) ∙ was.2) was.1
