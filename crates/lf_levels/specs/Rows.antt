-- The rows of ways that a table keeps, and the lines that stand in them.
use Rattle.std.specs.Prelude.{◌≡◌, ℕ, ◌<◌, ◌≤◌, ◌*◌, ◌+◌, ◌==◌, Bool, true, false, List, [], ◌∷◌, length, Option}
use Rattle.std.specs.Prelude.{None, Some, count_by, slice_index_or, ⊤}
use Rattle.lf_rules.specs.Fits.{is_factor}
use Rattle.lf_rules.specs.Lines.{with_line}

-- a line: which block it is on, and what is dirty of it
pub record Line (M : Type 0) : Type 0 where
  pub block : ℕ
  pub dirty : M

-- has the way no line?
abbrev pub is_free : {X : Type 0} → Option X → Bool
is_free None = true
is_free (Some x) = false

-- has the way of this key the line of the block?
abbrev pub is_key : ℕ → Option ℕ → Bool
is_key block None = false
is_key block (Some other) = other == block

-- are both keys of one block, or both of no line?
abbrev pub is_same : Option ℕ → Option ℕ → Bool
is_same None None = true
is_same None (Some other) = false
is_same (Some block) None = false
is_same (Some block) (Some other) = other == block

-- This is a place of so many ways from a place on that passes the test, or none of them does.
abbrev pub FindsWay : {X : Type 0} → (Option X → Bool) → List (Option X) → ℕ → ℕ → Option ℕ → Type 0
FindsWay test ways from count (Some place) = (from ≤ place) × (place < from + count) ×
    (test (slice_index_or ways place None) ≡ true)
FindsWay test ways from count None = (place : ℕ) → from ≤ place → place < from + count →
    test (slice_index_or ways place None) ≡ false

module _ {M : Type 0} where
  -- the way of this key, with so much dirty where it has a line
  abbrev pub way_of : Option ℕ → M → Option (Line M)
  way_of None dirty = None
  way_of (Some block) dirty = Some (record { block = block; dirty = dirty })

  -- the ways of these keys, each with what is dirty of it
  abbrev pub rows_of : List (Option ℕ) → List M → List (Option (Line M))
  rows_of [] dirty = []
  rows_of (key ∷ keys) [] = []
  rows_of (key ∷ keys) (d ∷ dirty) = way_of key d ∷ rows_of keys dirty

  -- has the way the line of the block?
  abbrev pub is_on : ℕ → Option (Line M) → Bool
  is_on block None = false
  is_on block (Some line) = line.block == block

  -- the lines in the ways, by rising blocks
  abbrev pub lines_of : List (Option (Line M)) → List (ℕ × M)
  lines_of [] = []
  lines_of (None ∷ rows) = lines_of rows
  lines_of (Some line ∷ rows) = with_line (lines_of rows) line.block line.dirty

  -- The place is in the row of the line's set, where rows have so many ways.
  abbrev pub IsInOwnRow : (ℕ → ℕ) → ℕ → ℕ → Option (Line M) → Type 0
  IsInOwnRow set ways place None = ⊤
  IsInOwnRow set ways place (Some line) = (set line.block * ways ≤ place) × (place < set line.block * ways + ways)

  -- What is dirty of the line in the way passes the test.
  abbrev pub HasDirty : (M → Bool) → Option (Line M) → Type 0
  HasDirty test None = ⊤
  HasDirty test (Some line) = test line.dirty ≡ true

  -- There is a row for each set, each line stands in the row of its set and has its level's masks, and no block has
  -- two.
  pub record AreWholeRows (set : ℕ → ℕ → ℕ → ℕ → ℕ) (is_line : ℕ → M → Bool) (sets ways banks factor : ℕ)
      (rows : List (Option (Line M))) : Type 0 where
    pub some_sets : 0 < sets
    pub below : (block : ℕ) → set banks factor sets block < sets
    pub few_sets : sets ≤ 4096
    pub few_ways : ways ≤ 16
    pub some_banks : 0 < banks
    pub in_range : is_factor factor ≡ true
    pub each_set : length rows ≡ sets * ways
    pub home : (place : ℕ) → place < length rows → IsInOwnRow (set banks factor sets) ways place
        (slice_index_or rows place None)
    pub masks : (place : ℕ) → place < length rows → HasDirty (is_line factor) (slice_index_or rows place None)
    pub once : (block : ℕ) → count_by (is_on block) rows ≤ 1

  -- Each way has a key and what is dirty of it, and these give whole rows.
  pub record AreWays (set : ℕ → ℕ → ℕ → ℕ → ℕ) (is_line : ℕ → M → Bool) (sets ways banks factor : ℕ)
      (keys : List (Option ℕ)) (dirty : List M) : Type 0 where
    pub even : length dirty ≡ length keys
    pub whole : AreWholeRows set is_line sets ways banks factor (rows_of keys dirty)
