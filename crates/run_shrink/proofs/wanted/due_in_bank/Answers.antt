use Rattle.std.proofs.Common.{◌≡◌, ℕ, List, Option, sym, subst}
use Rattle.std.specs.List.{AllByRecursion}
use Rattle.lf_rules.specs.Fits.{Fits}
use Rattle.lf_rules.specs.declared.event.Record.{Record}
use Rattle.explain_history.specs.BankOrder.{records_at}
use Rattle.explain_replay.proofs.Listed.{all_at_places}
use Rattle.run_shrink.proofs.wanted.due_in_bank.Goals as goal

pub first_broken-requires-clause-fit : goal.first_broken-requires-clause-fit
first_broken-requires-clause-fit c =
    let rs = c.in_ok-packed.packed.records in
    all_at_places (Fits c.args.shape.now) rs c.deref.result.now
    (subst (λ (l : List Record). AllByRecursion (Fits c.args.shape.now) l) (sym c.in_ok-packed.ensures) c.requires.fit)

pub first_broken-requires-clause-named : goal.first_broken-requires-clause-named
first_broken-requires-clause-named c =
    let rs = c.in_ok-packed.packed.records in
    subst (λ (ps : List (Option ℕ)). AllByRecursion (λ r. r.bank ≡ c.from.result) (records_at rs ps))
    (sym c.deref.ensures.value)
    (subst (λ (bank : ℕ). AllByRecursion (λ r. r.bank ≡ bank) (records_at rs c.in_ok-places.places.items))
    (sym c.from.ensures) c.in_ok-places.ensures.named)
