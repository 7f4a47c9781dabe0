use Rattle.std.proofs.Common.{◌≡◌, ℕ, List, Option, sym, ◌∙◌, subst}
use Rattle.std.specs.List.{AllByRecursion}
use Rattle.lf_rules.specs.declared.event.Record.{Record}
use Rattle.lf_rules.specs.Fits.{Fits}
use Rattle.explain_history.specs.BankOrder.{records_at}
use Rattle.explain_replay.proofs.Listed.{all_at_places}
use Rattle.bank_tests.proofs.explained.told.Goals as goal

pub first_broken-requires-clause-fit : goal.first_broken-requires-clause-fit
first_broken-requires-clause-fit c =
    let order = c.is_bank_order.ensures c.if-not-is_bank_order.false in
    all_at_places (Fits c.args.shape.now) c.in-Ok.packed.records c.deref-3.result.now
    (subst (λ (rs : List Record). AllByRecursion (Fits c.args.shape.now) rs)
    (c.deref.ensures.value ∙ sym c.deref-2.ensures.value ∙ sym c.in-Ok.ensures) order.fit)

pub first_broken-requires-clause-named : goal.first_broken-requires-clause-named
first_broken-requires-clause-named c =
    subst (λ (ps : List (Option ℕ)). AllByRecursion (λ r. r.bank ≡ 0) (records_at c.in-Ok.packed.records ps))
    (sym c.deref-3.ensures.value) c.in-Ok-places_in_order.ensures.named
