-- An array of registers' places, and the order in which those in use were taken.
use Rattle.std.specs.Prelude.{◌≡◌, ℕ, zero, suc, ◌+◌, ◌*◌, ◌/◌, ◌%◌, ◌≤◌, Bool, not, ◌==◌}
use Rattle.std.specs.Prelude.{List, [], ◌∷◌, ◌++◌, length, map, slice_index, count_by, filter}
use Rattle.std.specs.List.{list_any}
use Rattle.lf_rules.specs.Address.{is_under}
use Rattle.lf_rules.specs.Registers.{Held}

-- is the bit set in these words of 64 bits?
abbrev pub is_marked : List ℕ → ℕ → Bool
is_marked words bit = is_under (slice_index words (bit / 64)) (bit % 64)

-- so many places, each of them the next of the one before it
abbrev pub walk : (ℕ → ℕ) → ℕ → ℕ → List ℕ
walk next at zero = []
walk next at (suc n) = next at ∷ walk next (next at) n

-- the last of the places, or where they start
abbrev pub last_of : ℕ → List ℕ → ℕ
last_of start [] = start
last_of start (x ∷ xs) = last_of x xs

-- each place occurs once, and is below the end
pub record AreOnce (end : ℕ) (xs : List ℕ) : Type 0 where
  pub once : (place : ℕ) → count_by (λ x. x == place) xs ≤ 1
  pub none : (place : ℕ) → end ≤ place → count_by (λ x. x == place) xs ≡ 0

module _ {A : Type 0} where
  -- the item of an array, if it is that long
  abbrev pub pick : List A → ℕ → List A
  pick [] place = []
  pick (x ∷ xs) zero = x ∷ []
  pick (x ∷ xs) (suc place) = pick xs place

  -- the items at these places, each with its place
  abbrev pub placed : List A → List ℕ → List (ℕ × A)
  placed items [] = []
  placed items (place ∷ places) = map (λ x. (place, x)) (pick items place) ++ placed items places

-- The links lead from the end through so many places to the last, and the words have a bit for each of them.
pub record IsChain {A : Type 0} (items : List A) (next used : List ℕ) (end last len : ℕ) : Type 0 where
  pub few : end ≤ 4096
  pub long : length items ≡ end
  pub links : length next ≡ end + 1
  pub words : end ≤ 64 * length used
  pub ends : last_of end (walk (slice_index next) end len) ≡ last
  pub places : AreOnce end (walk (slice_index next) end len)
  pub marked : (place : ℕ) → is_marked used place ≡ list_any (λ x. x == place) (walk (slice_index next) end len)

-- what the places are seen as: how many there are, and those in use with their items, in the order in which they
-- were taken
pub record Places (T : Type 0) : Type 0 where
  pub places : ℕ
  pub order : List (ℕ × Held T)

module _ {T : Type 0} where
  abbrev pub no_places : ℕ → Places T
  no_places places = record { places = places; order = [] }

  -- what the places hold
  abbrev pub held_of : List (ℕ × Held T) → List (Held T)
  held_of order = map (λ q. q.1) order

  -- the places that are left after a block
  abbrev pub left_of : List (ℕ × Held T) → ℕ → List (ℕ × Held T)
  left_of order block = filter (λ q. not (q.1.block == block)) order

  -- does the place hold something?
  abbrev pub is_taken : List (ℕ × Held T) → ℕ → Bool
  is_taken order place = list_any (λ q. q.0 == place) order
