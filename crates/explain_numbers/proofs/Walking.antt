-- The records from one on, of those for which a test holds.
use Rattle.std.proofs.Common.{◌≡◌, ℕ, suc, ◌+◌, ◌<◌, Bool, true, false, if◌then◌else◌, List, [], ◌∷◌, ◌++◌, length}
use Rattle.std.proofs.Common.{get_or, drop, map, filter, sym, ap, ◌∙◌, append_assoc, add-one}
use Rattle.std.proofs.lemmas.List.{drop_more}
use Rattle.lf_rules.specs.declared.event.Event.TheVariants as events
use Rattle.lf_rules.specs.declared.event.Record.{Record}
use Rattle.explain_history.specs.Places.{places_from}

-- a record for where there is none
abbrev pub no_record : Record
no_record = record { log = 0; bank = 0; number = 0; event = events.Fence }

-- the numbers of those for which the test holds
abbrev pub numbers_of : (Record → Bool) → List Record → List ℕ
numbers_of holds rs = map (λ r. r.number) (filter holds rs)

module _ (holds : Record → Bool) (rs : List Record) (k : ℕ) (lt : k < length rs) where
  abbrev here : Record
  here = get_or rs k no_record

  -- ---- places

  places_here : (b : Bool) → holds here ≡ b
      → places_from holds k (drop k rs)
      ≡ (if b then k ∷ places_from holds (k + 1) (drop (k + 1) rs) else places_from holds (k + 1) (drop (k + 1) rs))
  places_here b is =
      ap (places_from holds k) (drop_more rs k no_record lt)
      ∙ ap (λ (t : Bool). if t then k ∷ places_from holds (suc k) (drop (k + 1) rs) else places_from holds (suc k)
      (drop (k + 1) rs)) is
      ∙ ap (λ (n : ℕ). if b then k ∷ places_from holds n (drop (k + 1) rs) else places_from holds n (drop (k + 1) rs))
      (sym (add-one k))

  pub place_taken : (found all : List ℕ) → holds here ≡ true → found ++ places_from holds k (drop k rs) ≡ all
      → (found ++ k ∷ []) ++ places_from holds (k + 1) (drop (k + 1) rs) ≡ all
  place_taken found all is so_far =
      append_assoc found (k ∷ []) (places_from holds (k + 1) (drop (k + 1) rs))
      ∙ ap (λ (ps : List ℕ). found ++ ps) (sym (places_here true is)) ∙ so_far

  pub first_place : holds here ≡ true
      → places_from holds k (drop k rs) ≡ k ∷ places_from holds (k + 1) (drop (k + 1) rs)
  first_place is = places_here true is

  pub place_passed : holds here ≡ false → places_from holds k (drop k rs) ≡ places_from holds (k + 1) (drop (k + 1) rs)
  place_passed is = places_here false is

  -- ---- numbers

  numbers_here : (b : Bool) → holds here ≡ b
      → numbers_of holds (drop k rs)
      ≡ map (λ (r : Record). r.number)
      (if b then here ∷ filter holds (drop (k + 1) rs) else filter holds (drop (k + 1) rs))
  numbers_here b is =
      ap (numbers_of holds) (drop_more rs k no_record lt)
      ∙ ap (λ (t : Bool). map (λ (r : Record). r.number)
      (if t then here ∷ filter holds (drop (k + 1) rs) else filter holds (drop (k + 1) rs))) is

  pub number_taken : (found all : List ℕ) (n : ℕ) → holds here ≡ true → n ≡ here.number
      → found ++ numbers_of holds (drop k rs) ≡ all
      → (found ++ n ∷ []) ++ numbers_of holds (drop (k + 1) rs) ≡ all
  number_taken found all n is own so_far =
      append_assoc found (n ∷ []) (numbers_of holds (drop (k + 1) rs))
      ∙ ap (λ (m : ℕ). found ++ m ∷ numbers_of holds (drop (k + 1) rs)) own
      ∙ ap (λ (ns : List ℕ). found ++ ns) (sym (numbers_here true is)) ∙ so_far

  pub number_passed : (found all : List ℕ) → holds here ≡ false → found ++ numbers_of holds (drop k rs) ≡ all
      → found ++ numbers_of holds (drop (k + 1) rs) ≡ all
  number_passed found all is so_far = ap (λ (ns : List ℕ). found ++ ns) (sym (numbers_here false is)) ∙ so_far
