-- A table in which each block stands at the place that its number says.
use Rattle.std.specs.Prelude.{◌≡◌, ℕ, ◌*◌, ◌/◌, ◌%◌, ◌^◌, ◌≤◌, List, [], ◌∷◌, length, Option, Some, None}
use Rattle.std.specs.Prelude.{slice_index_or, nat_eq, Bool, false, ◌==◌, if◌then◌else◌}
use Rattle.std.specs.Map.{lookup}

-- the place of a block in a table of so many places
abbrev pub place_in : ℕ → ℕ → ℕ → ℕ
place_in spread count block = block * spread % 2 ^ 32 * count / 2 ^ 32

-- the blocks of a table, each with its bytes
abbrev pub blocks_in : List (Option (ℕ × List ℕ)) → List (ℕ × List ℕ)
blocks_in [] = []
blocks_in (None ∷ places) = blocks_in places
blocks_in (Some block ∷ places) = block ∷ blocks_in places

-- what stands at a place of this key and these bytes
abbrev pub place_of : Option ℕ → List ℕ → Option (ℕ × List ℕ)
place_of None bytes = None
place_of (Some block) bytes = Some (block, bytes)

-- the places of these keys, each with its bytes
abbrev pub places_of : List (Option ℕ) → List (List ℕ) → List (Option (ℕ × List ℕ))
places_of [] bytes = []
places_of (key ∷ keys) [] = []
places_of (key ∷ keys) (b ∷ bytes) = place_of key b ∷ places_of keys bytes

-- Each block stands at its place, and as many places are used as are counted.
pub record IsTable (spread used : ℕ) (places : List (Option (ℕ × List ℕ))) : Type 0 where
  pub own : (at : ℕ) (block : ℕ × List ℕ) → slice_index_or places at None ≡ Some block →
      place_in spread (length places) block.0 ≡ at
  pub counted : used ≡ length (blocks_in places)
  pub small : length places ≤ 2 ^ 32

-- Each place has a key and bytes, and these give a table.
pub record IsKeyedTable (spread used : ℕ) (keys : List (Option ℕ)) (bytes : List (List ℕ)) : Type 0 where
  pub even : length bytes ≡ length keys
  pub table : IsTable spread used (places_of keys bytes)

-- whether a block goes to the second of the two places that its place becomes in a table of so many
abbrev pub goes_second : ℕ → ℕ → Option ℕ → Bool
goes_second spread count None = false
goes_second spread count (Some block) = place_in spread count block % 2 == 1

-- each of the bytes two times
abbrev pub twice : List (List ℕ) → List (List ℕ)
twice [] = []
twice (b ∷ bytes) = b ∷ b ∷ twice bytes

-- the blocks after one got these bytes
abbrev pub IsWith : List (ℕ × List ℕ) → ℕ → List ℕ → List (ℕ × List ℕ) → Type 0
IsWith old block bytes new = (q : ℕ) → lookup (nat_eq q) new ≡ (if block == q then Some bytes else
    lookup (nat_eq q) old)
