-- Which records have a number of a bank, and which stand next to one.
use Rattle.std.specs.Prelude.{◌≡◌, ℕ, ◌≤◌, Bool, ◌==◌, ◌&&◌, ◌⊎◌, nat_lt, List, [], map, filter, All, Contains}
use Rattle.lf_rules.specs.declared.event.Record.{Record}
use Rattle.explain_history.specs.Places.{places_from, is_numbered}

-- the places of all records that have this number of the bank
abbrev pub places_of_number : ℕ → ℕ → List Record → List ℕ
places_of_number bank number rs = places_from (is_numbered bank number) 0 rs

-- The record has a number of the bank that is below this one.
abbrev pub is_below : ℕ → ℕ → Record → Bool
is_below bank number r = (r.bank == bank) && nat_lt r.number number

abbrev pub is_above : ℕ → ℕ → Record → Bool
is_above bank number r = (r.bank == bank) && nat_lt number r.number

-- the bank's numbers that are below this one
abbrev pub numbers_below : ℕ → ℕ → List Record → List ℕ
numbers_below bank number rs = map (λ r. r.number) (filter (is_below bank number) rs)

abbrev pub numbers_above : ℕ → ℕ → List Record → List ℕ
numbers_above bank number rs = map (λ r. r.number) (filter (is_above bank number) rs)

pub record IsGreatest (greatest : ℕ) (numbers : List ℕ) : Type 0 where
  pub there : Contains numbers greatest
  pub bound : All (λ n. n ≤ greatest) numbers

pub record IsLeast (least : ℕ) (numbers : List ℕ) : Type 0 where
  pub there : Contains numbers least
  pub bound : All (λ n. least ≤ n) numbers

-- There is no number of the bank below this one and no record is told, or these are the places of all records with
-- the greatest such number.
abbrev pub AreGreatestBelow : List Record → ℕ → ℕ → List ℕ → Type 0
AreGreatestBelow rs bank number places =
    ((numbers_below bank number rs ≡ []) × (places ≡ []))
    ⊎ ((greatest : ℕ) × IsGreatest greatest (numbers_below bank number rs) ×
    (places ≡ places_of_number bank greatest rs))

-- There is no number of the bank above this one and no record is told, or these are the places of all records with
-- the least such number.
abbrev pub AreLeastAbove : List Record → ℕ → ℕ → List ℕ → Type 0
AreLeastAbove rs bank number places =
    ((numbers_above bank number rs ≡ []) × (places ≡ []))
    ⊎ ((least : ℕ) × IsLeast least (numbers_above bank number rs) × (places ≡ places_of_number bank least rs))
