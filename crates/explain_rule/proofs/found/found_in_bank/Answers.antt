use Rattle.std.proofs.Common.{◌≡◌, ℕ, ◌+◌, List, Option, length, take, sym, ap, ◌∙◌, subst, arith}
use Rattle.std.specs.List.{AllByRecursion}
use Rattle.std.proofs.lemmas.List.FromFn.{length-map-range_with_len, take-map-range_with_len}
use Rattle.lf_rules.specs.Fits.{Fits}
use Rattle.explain_history.specs.BankOrder.{records_at}
use Rattle.explain_history.specs.Places.{place_of_number}
use Rattle.explain_replay.proofs.Listed.{all_at_places}
use Rattle.explain_rule.proofs.found.found_in_bank.Goals as goal

pub history_in_order-requires-clause-number : goal.history_in_order-requires-clause-number
history_in_order-requires-clause-number c =
    omega (
      arith,
      ap length (c.deref.ensures.value ∙ c.in_ok-places.ensures.places),
      length-map-range_with_len (place_of_number c.args.bank c.args.records.now.records) 0 (c.args.number + 1),
    )

pub first_broken-requires-clause-fit : goal.first_broken-requires-clause-fit
first_broken-requires-clause-fit c = all_at_places (Fits c.args.shape.now) c.args.records.now.records
    c.deref-2.result.now c.requires.fit

pub first_broken-requires-clause-named : goal.first_broken-requires-clause-named
first_broken-requires-clause-named c =
    let rs = c.args.records.now.records in
    subst (λ (ps : List (Option ℕ)). AllByRecursion (λ r. r.bank ≡ c.from.result) (records_at rs ps))
    (sym c.deref-2.ensures.value)
    (subst (λ (bank : ℕ). AllByRecursion (λ r. r.bank ≡ bank) (records_at rs c.in_ok-places.places.items))
    (sym c.from.ensures) c.in_ok-places.ensures.named)

pub returns-clause-before : goal.returns-clause-before
returns-clause-before c =
    let rs = c.args.records.now.records in
    let number = c.args.number in
    ap (records_at rs)
    (c.truncate.ensures.items ∙ ap (take number) c.in_ok-places.ensures.places
    ∙ take-map-range_with_len (place_of_number c.args.bank rs) 0 (number + 1) number (omega arith))
