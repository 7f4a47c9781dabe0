-- What the cells say of each block, and of each second-level block.
use Rattle.std.specs.Prelude.{◌≡◌, ℕ, ◌+◌, ◌*◌, ◌/◌, ◌%◌, ◌^◌, ◌<◌, List, [], length, Option, None, Some}
use Rattle.std.specs.Prelude.{slice_index, slice_index_or}
use Rattle.lf_rules.specs.Address.{FlatMemory}
use Rattle.bank_cells.specs.declared.cell.Cell.{Cell}
use Rattle.bank_cells.specs.declared.known.First.{First}
use Rattle.bank_cells.specs.declared.known.First.TheVariants as level1
use Rattle.bank_cells.specs.declared.known.Second.{Second}
use Rattle.bank_cells.specs.declared.known.Second.TheVariants as level2
use Rattle.bank_cells.specs.Index.{found_in}

pub record CellsView : Type 0 where
  pub factor : ℕ  -- how many blocks a second-level block has
  pub places : List (ℕ × ℕ)  -- second-level blocks with their places
  pub seconds : List Second  -- what level two has of the second-level block of each place
  pub cells : List Cell  -- those of the blocks of each place, one place after another

-- ---- places and cells

-- the place of a second-level block
abbrev pub place_of : CellsView → ℕ → Option ℕ
place_of v second = found_in v.places second

-- the cell of a part of the second-level block at a place
abbrev pub cell_in : ℕ → ℕ → Option ℕ → Option ℕ
cell_in factor part None = None
cell_in factor part (Some place) = Some (place * factor + part)

-- the cell of a block
abbrev pub cell_of : CellsView → ℕ → Option ℕ
cell_of v block = cell_in v.factor (block % v.factor) (place_of v (block / v.factor))

-- it is the place of some second-level block
pub record IsPlace (v : CellsView) (place : ℕ) : Type 0 where
  pub second : ℕ
  pub found : place_of v second ≡ Some place

-- it is the cell of some block
pub record IsCell (v : CellsView) (cell : ℕ) : Type 0 where
  pub block : ℕ
  pub found : cell_of v block ≡ Some cell

-- ---- the words of a block, which has nothing without a cell

abbrev pub nothing : Cell
nothing = record { first = level1.Absent; written = 0; dirty = 0; bytes = [] }

abbrev pub cell_at : List Cell → Option ℕ → Cell
cell_at cells None = nothing
cell_at cells (Some at) = slice_index_or cells at nothing

-- what level one has of a block
abbrev pub first_at : CellsView → ℕ → First
first_at v block = (cell_at v.cells (cell_of v block)).first

-- the dirty mask of its line in level one, or the bytes that its waiting stores write
abbrev pub written_at : CellsView → ℕ → ℕ
written_at v block = (cell_at v.cells (cell_of v block)).written

-- its dirty mask in the line of level two
abbrev pub dirty_at : CellsView → ℕ → ℕ
dirty_at v block = (cell_at v.cells (cell_of v block)).dirty

-- the bytes of each block
abbrev pub memory_at : CellsView → FlatMemory
memory_at v block = slice_index (cell_at v.cells (cell_of v block)).bytes

abbrev pub second_in : List Second → Option ℕ → Second
second_in seconds None = level2.Absent
second_in seconds (Some place) = slice_index_or seconds place level2.Absent

-- what level two has of a second-level block
abbrev pub second_at : CellsView → ℕ → Second
second_at v second = second_in v.seconds (place_of v second)

-- ---- what holds of all cells

-- Second-level blocks have places apart, and each place has what is known of it.
pub record IsWhole (v : CellsView) : Type 0 where
  pub some : 0 < v.factor
  pub apart : (s t place : ℕ) → place_of v s ≡ Some place → place_of v t ≡ Some place → s ≡ t
  pub within : (second place : ℕ) → place_of v second ≡ Some place → place < length v.seconds
  pub even : length v.cells ≡ length v.seconds * v.factor

-- the places and the cells of all blocks are the same
pub record IsPlacedAlike (old new : CellsView) : Type 0 where
  pub factor : new.factor ≡ old.factor
  pub places : place_of new ≡ place_of old
  pub cells : cell_of new ≡ cell_of old

-- a block that has a cell keeps it, and a second-level block its place
pub record StaysPlaced (old new : CellsView) : Type 0 where
  pub factor : new.factor ≡ old.factor
  pub place : (second at : ℕ) → place_of old second ≡ Some at → place_of new second ≡ Some at
  pub cell : (block at : ℕ) → cell_of old block ≡ Some at → cell_of new block ≡ Some at

-- the words of all blocks are the same
pub record HasSameWords (old new : CellsView) : Type 0 where
  pub first : first_at new ≡ first_at old
  pub written : written_at new ≡ written_at old
  pub dirty : dirty_at new ≡ dirty_at old
  pub memory : memory_at new ≡ memory_at old
  pub second : second_at new ≡ second_at old

-- no level has a block
pub record IsUntouched (v : CellsView) : Type 0 where
  pub first : first_at v ≡ (λ _. level1.Absent)
  pub written : written_at v ≡ (λ _. 0)
  pub dirty : dirty_at v ≡ (λ _. 0)
  pub second : second_at v ≡ (λ _. level2.Absent)

-- no block has a cell
abbrev pub no_cells : ℕ → CellsView
no_cells factor = record { factor = factor; places = []; seconds = []; cells = [] }

-- the cells of second-level blocks that have 2 ^ shift blocks
abbrev pub cells_of : ℕ → List (ℕ × ℕ) → List Second → List Cell → CellsView
cells_of shift places seconds cells =
    record { factor = 2 ^ shift; places = places; seconds = seconds; cells = cells }
