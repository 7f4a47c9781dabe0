-- Places by the numbers of blocks, in a table at whose entries blocks stand by their numbers.
use Rattle.std.specs.Prelude.{◌≡◌, ℕ, zero, suc, ◌*◌, ◌/◌, ◌%◌, ◌^◌, ◌≤◌, List, [], ◌∷◌, length, Option, Some, None}
use Rattle.std.specs.Prelude.{slice_index_or, nat_eq, Bool, false, ◌==◌, if◌then◌else◌}
use Rattle.std.specs.Map.{lookup}
use Rattle.bank_cells.specs.declared.table.Entry.{Entry}

-- the place that a block has, if it has one
abbrev pub found_in : List (ℕ × ℕ) → ℕ → Option ℕ
found_in places block = lookup (nat_eq block) places

-- the entry of a block in a table of so many
abbrev pub entry_in : ℕ → ℕ → ℕ → ℕ
entry_in spread count block = block * spread % 2 ^ 32 * count / 2 ^ 32

-- the blocks of a table, each with its place
abbrev pub blocks_in : List (Option (ℕ × ℕ)) → List (ℕ × ℕ)
blocks_in [] = []
blocks_in (None ∷ entries) = blocks_in entries
blocks_in (Some block ∷ entries) = block ∷ blocks_in entries

-- a block and the place below a number, if there is one
abbrev pub place_below : ℕ → ℕ → Option (ℕ × ℕ)
place_below block zero = None
place_below block (suc place) = Some (block, place)

-- what stands at an entry
abbrev pub stands_in : Entry → Option (ℕ × ℕ)
stands_in entry = place_below entry.block entry.above

-- Each block stands at its entry, and as many entries are used as are counted.
pub record IsTable (spread used : ℕ) (entries : List (Option (ℕ × ℕ))) : Type 0 where
  pub own : (at : ℕ) (block : ℕ × ℕ) → slice_index_or entries at None ≡ Some block →
      entry_in spread (length entries) block.0 ≡ at
  pub counted : used ≡ length (blocks_in entries)
  pub small : length entries ≤ 2 ^ 32

-- whether a block goes to the second of the two entries that its entry becomes in a table of so many
abbrev pub goes_second : ℕ → ℕ → Option (ℕ × ℕ) → Bool
goes_second spread count None = false
goes_second spread count (Some block) = entry_in spread count block.0 % 2 == 1

-- the blocks after one got a place
abbrev pub IsWith : List (ℕ × ℕ) → ℕ → ℕ → List (ℕ × ℕ) → Type 0
IsWith old block place new = (q : ℕ) → found_in new q ≡ (if block == q then Some place else found_in old q)
