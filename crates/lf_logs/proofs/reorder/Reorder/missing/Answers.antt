use Rattle.std.proofs.Common.{◌≡◌, sym, ap, ◌∙◌, arith}
use Rattle.std.specs.Prelude.{is_some}
use Rattle.lf_logs.specs.Reordering.{Reordering, early_at}
use Rattle.lf_logs.proofs.Reordered.{none_missing, first_missing}
use Rattle.lf_logs.proofs.reorder.Reorder.missing.Goals as goal

pub returns-then-not-contains-clause-some : goal.returns-then-not-contains-clause-some
returns-then-not-contains-clause-some c put gave has =
    let greatest = c.self.inside.greatest in
    let turn : c.self.inside.next ≡ c.args.self.now.next = ap (λ (o : Reordering). o.next) c.self.view_is in
    first_missing c.args.self.now put gave has c.loop-number.number greatest c.loop-number.invariant.0
    c.loop-number.invariant.1
    (ap (λ (o : Reordering). is_some (early_at o c.loop-number.number)) (sym c.self.view_is) ∙ sym c.contains.ensures
    ∙ c.if-not-contains.true) (omega arith)
    (sym (ap (λ (o : Reordering). is_some (early_at o greatest)) c.self.view_is)
    ∙ c.self.invariant.1.waits (omega (arith, c.loop-number.invariant.0)))

pub returns-clause-none : goal.returns-clause-none
returns-clause-none c put gave has =
    none_missing c.args.self.now put gave has c.self.inside.greatest
    (λ k from low. c.loop-number.invariant.1 k from (omega arith))
    (λ m there. c.self.invariant.1.above m (ap (λ (o : Reordering). is_some (early_at o m)) c.self.view_is ∙ there))
