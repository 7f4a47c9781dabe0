-- A table of the items of chunks by their numbers.
use Rattle.std.specs.Prelude.{◌≡◌, ℕ, ◌%◌, ◌^◌, ◌==◌, cond, List, [], ◌∷◌, map, length, Option, Some, None}
use Rattle.std.specs.Prelude.{slice_index_or, ◌<◌}
use Rattle.std.specs.Map.{lookup}
use Rattle.std.specs.BTreeMap.{is_at}
use Rattle.std.specs.Ordering.{nat_cmp}
use Rattle.trace_early.specs.Kept.{item_at, bytes_in, chunk_of, start_of, Keeps}

-- what has this number
abbrev pub numbered_as : {X : Type 0} → ℕ → List (ℕ × X) → Option X
numbered_as number items = lookup (is_at (nat_cmp number)) items

-- ---- slots

-- their entries, a number and a place each
abbrev pub entries : List (Option (ℕ × ℕ)) → List (ℕ × ℕ)
entries [] = []
entries (None ∷ slots) = entries slots
entries (Some e ∷ slots) = e ∷ entries slots

-- the place of this number, where the slot has it
abbrev pub place_for : ℕ → Option (ℕ × ℕ) → Option ℕ
place_for number None = None
place_for number (Some e) = cond (e.0 == number) (Some e.1) None

-- a number's slot is the one at the number modulo the count of slots
abbrev pub slot_for : List (Option (ℕ × ℕ)) → ℕ → Option (ℕ × ℕ)
slot_for slots number = slice_index_or slots (number % length slots) None

-- each entry is in its number's slot
abbrev pub AreOwn : List (Option (ℕ × ℕ)) → Type 0
AreOwn slots = (slot number place : ℕ) → slice_index_or slots slot None ≡ Some (number, place)
    → number % length slots ≡ slot

-- how many there are, where there are some, is a power of two
abbrev pub AreSized : List (Option (ℕ × ℕ)) → Type 0
AreSized slots = 0 < length slots → (bits : ℕ) × (length slots ≡ 2 ^ bits)

-- ---- a table

abbrev pub item_in : List (List ℕ × ℕ) → ℕ → List ℕ
item_in chunks place = item_at (bytes_in chunks (chunk_of place)) (start_of place)

-- the items of the entries, by their places and by their numbers
abbrev pub placed : List (List ℕ × ℕ) → List (ℕ × ℕ) → List (ℕ × List ℕ)
placed chunks es = map (λ e. (e.1, item_in chunks e.1)) es

abbrev pub numbered : List (List ℕ × ℕ) → List (ℕ × ℕ) → List (ℕ × List ℕ)
numbered chunks es = map (λ e. (e.0, item_in chunks e.1)) es

-- The chunks keep the items of the slots' entries and no others, and none of their numbers is among those kept aside.
pub record IsTable (slots : List (Option (ℕ × ℕ))) (taken : ℕ) (chunks : List (List ℕ × ℕ))
    (aside : List (ℕ × List ℕ)) : Type 0 where
  pub own : AreOwn slots
  pub sized : AreSized slots
  pub counted : taken ≡ length (entries slots)
  pub keeps : Keeps chunks (placed chunks (entries slots))
  pub apart : (number place : ℕ) → place_for number (slot_for slots number) ≡ Some place
      → numbered_as number aside ≡ None
