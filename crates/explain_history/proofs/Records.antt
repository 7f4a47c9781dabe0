-- The places from a record on, of those for which a test holds.
use Rattle.std.proofs.Common.{◌≡◌, ℕ, suc, ◌+◌, ◌<◌, Bool, true, false, ◌==◌, if◌then◌else◌, List, [], ◌∷◌, ◌++◌}
use Rattle.std.proofs.Common.{length, get_or, set, drop, Option, Some, None, refl, sym, ap, ◌∙◌, subst, arith, inl, inr}
use Rattle.std.proofs.Common.{append_assoc, add-one, eq-eqb}
use Rattle.std.specs.Prelude.{slice_get}
use Rattle.std.proofs.lemmas.List.{drop_more, get_or-set_same, get_or-set_other}
use Rattle.std.proofs.lemmas.Bool.{and_parts, eqb-true, cases_eq, false_from_ne_true}
use Rattle.lf_rules.specs.declared.event.Event.TheVariants as events
use Rattle.lf_rules.specs.declared.event.Record.{Record}
use Rattle.explain_history.specs.Places.{places_from, is_numbered}

-- a record for where there is none
abbrev pub no_record : Record
no_record = record { log = 0; bank = 0; number = 0; event = events.Fence }

-- the places from this one on, by what the test says of the record here
from_here : (holds : Record → Bool) (rs : List Record) (k next : ℕ) (b : Bool) → k + 1 ≡ next → k < length rs
    → holds (get_or rs k no_record) ≡ b
    → places_from holds k (drop k rs)
    ≡ (if b then k ∷ places_from holds next (drop next rs) else places_from holds next (drop next rs))
from_here holds rs k next b one lt is =
    ap (places_from holds k) (drop_more rs k no_record lt)
    ∙ ap (λ (t : Bool). if t then k ∷ places_from holds (suc k) (drop (k + 1) rs) else places_from holds (suc k)
    (drop (k + 1) rs)) is
    ∙ ap (λ (n : ℕ). if b then k ∷ places_from holds n (drop (k + 1) rs) else places_from holds n (drop (k + 1) rs))
    (sym (add-one k) ∙ one)
    ∙ ap (λ (n : ℕ). if b then k ∷ places_from holds next (drop n rs) else places_from holds next (drop n rs)) one

pub told_here : (holds : Record → Bool) (rs : List Record) (k : ℕ) (found all : List ℕ) → k < length rs
    → holds (get_or rs k no_record) ≡ true → found ++ places_from holds k (drop k rs) ≡ all
    → (found ++ k ∷ []) ++ places_from holds (k + 1) (drop (k + 1) rs) ≡ all
told_here holds rs k found all lt is so_far =
    append_assoc found (k ∷ []) (places_from holds (k + 1) (drop (k + 1) rs))
    ∙ ap (λ (ps : List ℕ). found ++ ps) (sym (from_here holds rs k (k + 1) true refl lt is)) ∙ so_far

pub not_here : (holds : Record → Bool) (rs : List Record) (k : ℕ) (found all : List ℕ) → k < length rs
    → holds (get_or rs k no_record) ≡ false → found ++ places_from holds k (drop k rs) ≡ all
    → found ++ places_from holds (k + 1) (drop (k + 1) rs) ≡ all
not_here holds rs k found all lt is so_far =
    ap (λ (ps : List ℕ). found ++ ps) (sym (from_here holds rs k (k + 1) false refl lt is)) ∙ so_far

-- ---- the first places of the numbers of a bank

is_numbered_here : (bank number : ℕ) (r : Record) → r.bank ≡ bank → r.number ≡ number →
    is_numbered bank number r ≡ true
is_numbered_here bank number r own same = rw (eq-eqb r.bank bank own, eq-eqb r.number number same) refl

is_not_numbered : (bank number : ℕ) (r : Record) → (r.bank ≡ bank → r.number ≡ number → ⊥) →
    is_numbered bank number r ≡ false
is_not_numbered bank number r other =
    false_from_ne_true (is_numbered bank number r)
    (λ is. let both = and_parts (r.bank == bank) (r.number == number) is in
    other (eqb-true r.bank bank both.0) (eqb-true r.number number both.1))

-- the first place of a number, from this place on
abbrev pub first_from : ℕ → ℕ → ℕ → List Record → Option ℕ
first_from bank number place rs = slice_get (places_from (is_numbered bank number) place (drop place rs)) 0

first_here : (bank number : ℕ) (rs : List Record) (k next : ℕ) → k + 1 ≡ next → k < length rs
    → (get_or rs k no_record).bank ≡ bank → (get_or rs k no_record).number ≡ number
    → first_from bank number k rs ≡ Some k
first_here bank number rs k next one lt own same =
    ap (λ (ps : List ℕ). slice_get ps 0)
    (from_here (is_numbered bank number) rs k next true one lt
    (is_numbered_here bank number (get_or rs k no_record) own same))

first_later : (bank number : ℕ) (rs : List Record) (k next : ℕ) → k + 1 ≡ next → k < length rs
    → ((get_or rs k no_record).bank ≡ bank → (get_or rs k no_record).number ≡ number → ⊥)
    → first_from bank number k rs ≡ first_from bank number next rs
first_later bank number rs k next one lt other =
    ap (λ (ps : List ℕ). slice_get ps 0)
    (from_here (is_numbered bank number) rs k next false one lt
    (is_not_numbered bank number (get_or rs k no_record) other))

-- the first places of all numbers below the count, from this place on
abbrev pub AreFirst : ℕ → ℕ → ℕ → List Record → List (Option ℕ) → Type 0
AreFirst bank count place rs places = (j : ℕ) → j < count → get_or places j None ≡ first_from bank j place rs

-- the record here has a number of the bank
pub with_number : (bank count number : ℕ) (rs : List Record) (k next : ℕ) (places : List (Option ℕ))
    → k + 1 ≡ next → k < length rs → length places ≡ count → number < count
    → (get_or rs k no_record).bank ≡ bank → (get_or rs k no_record).number ≡ number
    → AreFirst bank count next rs places → AreFirst bank count k rs (set places number (Some k))
with_number bank count number rs k next places one lt len below own same first j j_below =
    elim (cases_eq j number) [
      | inl here ↦
          subst (λ (n : ℕ). get_or (set places number (Some k)) n None ≡ first_from bank n k rs) (sym here)
          (get_or-set_same places number (Some k) None (omega (arith, len))
          ∙ sym (first_here bank number rs k next one lt own same))
      | inr other ↦
          get_or-set_other places number j (Some k) None other ∙ first j j_below
          ∙ sym (first_later bank j rs k next one lt (λ b n. other (sym n ∙ same)))
    ]

-- the record here has none of these numbers
pub without_number : (bank count : ℕ) (rs : List Record) (k next : ℕ) (places : List (Option ℕ))
    → k + 1 ≡ next → k < length rs
    → ((get_or rs k no_record).bank ≡ bank → (get_or rs k no_record).number < count → ⊥)
    → AreFirst bank count next rs places → AreFirst bank count k rs places
without_number bank count rs k next places one lt other first j j_below =
    first j j_below
    ∙ sym (first_later bank j rs k next one lt
    (λ b n. other b (subst (λ (m : ℕ). m < count) (sym n) j_below)))
