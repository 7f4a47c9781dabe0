-- The records at the places of a bank's numbers name the bank.
use Rattle.std.proofs.Common.{◌≡◌, ℕ, ◌+◌, suc, Bool, true, false, if◌then◌else◌, List, [], ◌∷◌, ◌++◌, map, Option}
use Rattle.std.proofs.Common.{Some, None, refl, sym, ap, ◌∙◌, subst, arith}
use Rattle.std.specs.Prelude.{slice_get, option_to_list}
use Rattle.std.specs.List.{AllByRecursion, range_with_len}
use Rattle.std.proofs.lemmas.Bool.{and_parts, eqb-true}
use Rattle.std.proofs.lemmas.Option.{none-some, same_Some}
use Rattle.lf_rules.specs.declared.event.Record.{Record}
use Rattle.explain_history.specs.Places.{places_from, is_numbered, place_of_number, places_of_numbers}
use Rattle.explain_history.specs.Touching.{record_at}
use Rattle.explain_history.specs.BankOrder.{records_at}

-- The record stands at this place, where the first of the records stands at the base, and the test holds for it.
record IsFoundAt (holds : Record → Bool) (base : ℕ) (rs : List Record) (place : ℕ) : Type 0 where
  at : ℕ
  item : Record
  is_place : place ≡ base + at
  here : slice_get rs at ≡ Some item
  holding : holds item ≡ true

found_step : (holds : Record → Bool) (base : ℕ) (x : Record) (rs : List Record) (place : ℕ) (b : Bool) → holds x ≡ b
    → (slice_get (places_from holds (suc base) rs) 0 ≡ Some place → IsFoundAt holds (suc base) rs place)
    → slice_get (if b then base ∷ places_from holds (suc base) rs else places_from holds (suc base) rs) 0 ≡ Some place
    → IsFoundAt holds base (x ∷ rs) place
found_step holds base x rs place true is later e =
    record { at = 0; item = x; is_place = sym (same_Some base place e) ∙ omega arith; here = refl; holding = is }
found_step holds base x rs place false is later e =
    let found = later e in
    record {
      at = suc found.at;
      item = found.item;
      is_place = found.is_place ∙ omega arith;
      here =
          found.here;
      holding = found.holding;
    }

found_at : (holds : Record → Bool) (base : ℕ) (rs : List Record) (place : ℕ) →
    slice_get (places_from holds base rs) 0 ≡ Some place
    → IsFoundAt holds base rs place
found_at holds base [] place e = absurd (none-some place e)
found_at holds base (x ∷ rs) place e = found_step holds base x rs place (holds x) refl
    (found_at holds (suc base) rs place) e

-- the record there is the one that was found
found_holds : (holds : Record → Bool) (rs : List Record) (place : ℕ) (r : Record) → IsFoundAt holds 0 rs place →
    slice_get rs place ≡ Some r
    → holds r ≡ true
found_holds holds rs place r found e =
    let same : place ≡ found.at = omega (arith, found.is_place) in
    subst (λ (x : Record). holds x ≡ true) (same_Some found.item r
    (sym found.here ∙ ap (slice_get rs) (sym same) ∙ e)) found.holding

named_if : (bank number : ℕ) (rs : List Record) (place : ℕ) (o : Option Record) → slice_get rs place ≡ o →
    IsFoundAt (is_numbered bank number) 0 rs place
    → AllByRecursion (λ r. r.bank ≡ bank) (option_to_list o)
named_if bank number rs place None e found = tt
named_if bank number rs place (Some r) e found =
    (eqb-true r.bank bank (and_parts _ _ (found_holds (is_numbered bank number) rs place r found e)).0, tt)

named_at : (bank number : ℕ) (rs : List Record) (o : Option ℕ) → place_of_number bank rs number ≡ o
    → AllByRecursion (λ r. r.bank ≡ bank) (option_to_list (record_at rs o))
named_at bank number rs None e = tt
named_at bank number rs (Some place) e =
    named_if bank number rs place (slice_get rs place) refl (found_at (is_numbered bank number) 0 rs place e)

all_append : {X : Type 0} (P : X → Type 0) (xs ys : List X) → AllByRecursion P xs → AllByRecursion P ys →
    AllByRecursion P (xs ++ ys)
all_append P [] ys all more = more
all_append P (x ∷ xs) ys all more = (all.0, all_append P xs ys all.1 more)

-- the records of these numbers name the bank
named_all : (bank : ℕ) (rs : List Record) (numbers : List ℕ) →
    AllByRecursion (λ r. r.bank ≡ bank) (records_at rs (map (place_of_number bank rs) numbers))
named_all bank rs [] = tt
named_all bank rs (n ∷ numbers) =
    all_append (λ r. r.bank ≡ bank) (option_to_list (record_at rs (place_of_number bank rs n)))
    (records_at rs (map (place_of_number bank rs) numbers))
    (named_at bank n rs (place_of_number bank rs n) refl) (named_all bank rs numbers)

pub in_order_named : (bank : ℕ) (rs : List Record) (count : ℕ) →
    AllByRecursion (λ r. r.bank ≡ bank) (records_at rs (places_of_numbers bank rs count))
in_order_named bank rs count = named_all bank rs (range_with_len 0 count)
