-- What a table of lines is: a map from each block that is there to what is dirty of it, and the numbers of its sets.
use Rattle.std.specs.Prelude.{◌≡◌, ℕ, ◌≤◌, ◌*◌, ◌+◌, Bool, true, not, ◌==◌, List, [], ◌∷◌, length, Option, IfSome}
use Rattle.std.specs.Prelude.{bit_or, if◌then◌else◌}
use Rattle.std.specs.List.{range_with_len, list_all}
use Rattle.std.specs.List.Sorted.{IsStrictlySortedBy}
use Rattle.std.specs.Map.{keys_of}
use Rattle.std.specs.Ordering.{nat_cmp}
use Rattle.lf_rules.specs.declared.mask.Mask.{Mask}
use Rattle.lf_rules.specs.Address.{Masks, set2_of}
use Rattle.lf_rules.specs.Lines.{line_at, has_line, with_line, without_line, lines_of_set, has_way, dirty_mask}
use Rattle.lf_rules.specs.Lines.{dirty_masks}

pub record LineTable (M : Type 0) : Type 0 where
  pub sets : ℕ
  pub ways : ℕ  -- lines that a set has room for
  pub banks : ℕ
  pub factor : ℕ  -- first-level blocks in a block of level two
  pub lines : List (ℕ × M)

module _ {M : Type 0} where
  -- which set a block of the table is in, where a level says it of banks, factor, sets and block
  abbrev pub set_in : (ℕ → ℕ → ℕ → ℕ → ℕ) → LineTable M → ℕ → ℕ
  set_in set table = set table.banks table.factor table.sets

  -- The lines stand by rising blocks, no set has more of them than it has ways, and each has the masks that a level
  -- says
  -- a line has, of so many first-level blocks in one of level two.
  pub record IsLineTable (set : ℕ → ℕ → ℕ → ℕ → ℕ) (is_line : ℕ → M → Bool) (table : LineTable M) : Type 0 where
    pub sorted : IsStrictlySortedBy nat_cmp (keys_of table.lines)
    pub bounded : (block : ℕ) → lines_of_set (set_in set table) table.lines block ≤ table.ways
    pub masks : (block : ℕ) → IfSome (line_at table.lines block) (λ dirty. is_line table.factor dirty ≡ true)

  abbrev pub empty_table : ℕ → ℕ → ℕ → ℕ → LineTable M
  empty_table sets ways banks factor = record { sets = sets; ways = ways; banks = banks; factor = factor; lines = [] }

  abbrev pub is_full : (ℕ → ℕ → ℕ → ℕ → ℕ) → LineTable M → ℕ → Bool
  is_full set table block = not (has_way (set_in set table) table.ways table.lines block)

  -- the table with a line on the block of which so much is dirty, and with none
  abbrev pub after_fill : LineTable M → ℕ → M → LineTable M
  after_fill table block dirty =
      record {
        sets = table.sets;
        ways = table.ways;
        banks = table.banks;
        factor = table.factor;
        lines =
            with_line table.lines block dirty;
      }

  abbrev pub after_evict : LineTable M → ℕ → LineTable M
  after_evict table block =
      record {
        sets = table.sets;
        ways = table.ways;
        banks = table.banks;
        factor = table.factor;
        lines =
            without_line table.lines block;
      }

  -- The map has this at the block, or nothing, and at each other block what it had.
  abbrev pub ChangesOnly : LineTable M → LineTable M → ℕ → Option M → Type 0
  ChangesOnly old new block dirty = (other : ℕ) → line_at new.lines other
      ≡ (if other == block then dirty else line_at old.lines other)

-- ---- level one

-- a line has one mask
abbrev pub is_line1 : ℕ → ℕ → Bool
is_line1 factor mask = true

-- the line's mask with these bytes
abbrev pub joined1 : LineTable ℕ → ℕ → ℕ → ℕ
joined1 table block mask = bit_or (dirty_mask table.lines block) mask

-- ---- level two

abbrev pub wide_set : ℕ → ℕ → ℕ → ℕ → ℕ
wide_set banks factor sets second = set2_of banks sets second

-- a line has a mask for each first-level block of its block
abbrev pub is_line2 : ℕ → Masks → Bool
is_line2 factor masks = length masks.items == factor

-- each mask with the bytes of the other that stands beside it
abbrev pub joined : List Mask → List Mask → List Mask
joined [] others = []
joined (m ∷ ms) [] = m ∷ ms
joined (m ∷ ms) (o ∷ others) = record { 0 = bit_or m.0 o.0 } ∷ joined ms others

-- the line's masks with these bytes
abbrev pub joined2 : LineTable Masks → ℕ → Masks → Masks
joined2 table second masks = record { items = joined (dirty_masks table.lines second).items masks.items }

-- none of the blocks of a second-level block has a line in level one
abbrev pub are_absent : ℕ → LineTable ℕ → ℕ → Bool
are_absent factor inner second = list_all (λ place. not (has_line inner.lines (second * factor + place)))
    (range_with_len 0 factor)
