-- What stands at a place.
use Rattle.std.proofs.Common.{◌≡◌, ℕ, ◌<◌, ◌≤◌, List, [], map, length, get_or, IsSome, Some, is_some, refl, sym, ap}
use Rattle.std.proofs.Common.{◌∙◌, subst, ⊎_elim, arith}
use Rattle.std.specs.List.{slice_get}
use Rattle.std.proofs.lemmas.List.{get_or-map, get_or_past, length-map}
use Rattle.std.proofs.lemmas.Option.{slice_get_past, slice_get_read}
use Rattle.std.proofs.lemmas.Bool.{cases_lt, false≢true}
use Rattle.lf_rules.specs.declared.event.Record.{Record}
use Rattle.lf_logs.specs.declared.order.Place.{Place}
use Rattle.lf_logs.specs.Places.{record_at}

pub at_inside : {X : Type 0} (xs : List X) (at : ℕ) → IsSome (slice_get xs at) → at < length xs
at_inside xs at there = ⊎_elim
    (λ (inside : at < length xs). inside)
    (λ (past : length xs ≤ at). absurd (false≢true (sym (ap is_some (slice_get_past xs at past)) ∙ there)))
    (cases_lt at (length xs))

module _ {V : Type 0} (items : V → List Record) (logs : List V) (place : Place)
    (there : IsSome (record_at (map items logs) place)) where
  pub log_inside : place.log < length logs
  log_inside = ⊎_elim
      (λ (inside : place.log < length logs). inside)
      (λ (past : length logs ≤ place.log).
      let none : get_or (map items logs) place.log [] ≡ [] =
      get_or_past (map items logs) place.log [] (omega (arith, length-map logs items)) in
      absurd (false≢true (sym (ap (λ rs. is_some (slice_get rs place.at)) none) ∙ there)))
      (cases_lt place.log (length logs))

  module _ (log : V) (read : log ≡ get_or logs place.log log) where
    pub log_is : get_or (map items logs) place.log [] ≡ items log
    log_is = get_or-map items logs place.log log [] log_inside ∙ ap items (sym read)

    pub place_inside : place.at < length (items log)
    place_inside = at_inside (items log) place.at (subst (λ rs. IsSome (slice_get rs place.at)) log_is there)

    pub record_is : (item : Record) → item ≡ get_or (items log) place.at item →
        record_at (map items logs) place ≡ Some item
    record_is item found = ap (λ rs. slice_get rs place.at) log_is
        ∙ slice_get_read (items log) (length (items log)) place.at item refl place_inside found
