-- The words that keep what is dirty of each way's line, one way after another.
use Rattle.std.specs.Prelude.{ℕ, ◌+◌, ◌*◌, ◌/◌, List, length, map, slice_set}
use Rattle.std.specs.List.{slice_range, range_with_len}
use Rattle.lf_rules.specs.declared.mask.Mask.{Mask}
use Rattle.lf_rules.specs.Address.{Masks}

-- what is dirty of each way's line, where a block of level two has so many first-level blocks
pub record DirtyWays (M : Type 0) : Type 0 where
  pub factor : ℕ
  pub ways : List M

-- the words of a way, where each way has so many
abbrev pub words_at : ℕ → List ℕ → ℕ → List ℕ
words_at each words way = slice_range words (way * each) (way * each + each)

module _ {M : Type 0} where
  -- what the words say of each way
  abbrev pub ways_of : (List ℕ → M) → ℕ → List ℕ → List M
  ways_of dirty_of each words = map (λ way. dirty_of (words_at each words way))
      (range_with_len 0 (length words / each))

  -- the ways, where so much is dirty of the line in one of them
  abbrev pub with_way : DirtyWays M → ℕ → M → DirtyWays M
  with_way dirty way new = record { factor = dirty.factor; ways = slice_set dirty.ways way new }

-- ---- level two: a word is the mask of a first-level block

abbrev pub mask_of_word : ℕ → Mask
mask_of_word word = record { 0 = word }

abbrev pub masks_of : List ℕ → Masks
masks_of words = record { items = map mask_of_word words }
