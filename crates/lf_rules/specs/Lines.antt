-- The lines of one level of a bank: a map from each block that is there to what is dirty of it, by rising blocks.
-- Level one keeps a mask for each block, level two a mask for each block of a second-level block.
use Rattle.std.specs.Prelude.{ℕ, Bool, nat_lt, ◌==◌, not, List, [], Option, unwrap_or, is_some, count_by, bit_or}
use Rattle.std.specs.Prelude.{replicate, slice_set}
use Rattle.std.specs.List.{filter, list_all, range_with_len}
use Rattle.std.specs.Map.{lookup}
use Rattle.std.specs.BTreeMap.{insert_entry, is_at}
use Rattle.std.specs.Ordering.{nat_cmp}
use Rattle.lf_rules.specs.Address.{Masks, clean_mask, mask_at}

module _ {M : Type 0} where
  -- what is dirty of a block's line
  abbrev pub line_at : List (ℕ × M) → ℕ → Option M
  line_at lines block = lookup (is_at (nat_cmp block)) lines

  abbrev pub has_line : List (ℕ × M) → ℕ → Bool
  has_line lines block = is_some (line_at lines block)

  abbrev pub with_line : List (ℕ × M) → ℕ → M → List (ℕ × M)
  with_line lines block dirty = insert_entry nat_cmp lines block dirty

  abbrev pub without_line : List (ℕ × M) → ℕ → List (ℕ × M)
  without_line lines block = filter (λ line. not (line.0 == block)) lines

  -- how many lines are in the set of the block
  abbrev pub lines_of_set : (ℕ → ℕ) → List (ℕ × M) → ℕ → ℕ
  lines_of_set set lines block = count_by (λ line. set line.0 == set block) lines

  -- has the block's set a free way, of so many?
  abbrev pub has_way : (ℕ → ℕ) → ℕ → List (ℕ × M) → ℕ → Bool
  has_way set ways lines block = nat_lt (lines_of_set set lines block) ways

-- ---- level one

abbrev pub Lines : Type 0
Lines = List (ℕ × ℕ)

abbrev pub dirty_mask : Lines → ℕ → ℕ
dirty_mask lines block = unwrap_or (line_at lines block) 0

-- the line's mask gains these bytes
abbrev pub mark : Lines → ℕ → ℕ → Lines
mark lines block mask = with_line lines block (bit_or (dirty_mask lines block) mask)

-- ---- level two

abbrev pub WideLines : Type 0
WideLines = List (ℕ × Masks)

abbrev pub no_masks : Masks
no_masks = record { items = [] }

-- so many masks of no bytes
abbrev pub clean_masks : ℕ → Masks
clean_masks factor = record { items = replicate factor clean_mask }

abbrev pub dirty_masks : WideLines → ℕ → Masks
dirty_masks lines second = unwrap_or (line_at lines second) no_masks

-- are so many masks the same?
abbrev pub same_masks : ℕ → Masks → Masks → Bool
same_masks factor a b = list_all (λ place. mask_at a place == mask_at b place) (range_with_len 0 factor)

-- the mask at the place gains these bytes
abbrev pub marked : Masks → ℕ → ℕ → Masks
marked masks place mask = record {
  items = slice_set masks.items place
      (record { 0 = bit_or (mask_at masks place) mask });
}

abbrev pub mark_at : WideLines → ℕ → ℕ → ℕ → WideLines
mark_at lines second place mask = with_line lines second (marked (dirty_masks lines second) place mask)
