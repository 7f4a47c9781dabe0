-- What the rows of a table say of its lines, and how they change.
use Rattle.std.proofs.Common.{ℕ, ◌≡◌, ◌≢◌, ◌<◌, ◌≤◌, ◌+◌, ◌-◌, ◌*◌, ◌==◌, Bool, true, false, not, List, length}
use Rattle.std.proofs.Common.{get_or, Option, Some, None, is_some}
use Rattle.std.proofs.Common.{refl, sym, ap, ◌∙◌, subst, arith, eqb-true, eq-eqb, ne_eqb, get_or-set_same}
use Rattle.std.proofs.Common.{get_or-set_other, length-set}
use Rattle.std.specs.Prelude.{count_by, slice_set, IfSome}
use Rattle.std.proofs.Math.Logic.{⊎_elim}
use Rattle.std.proofs.lemmas.Bool.{cases_Bool, cases_eq, lt-ltb, le-ltb}
use Rattle.std.proofs.lemmas.Nat.{row_fits, same_from_place}
use Rattle.std.proofs.lemmas.List.Sums.{count_by-le-length}
use Rattle.lf_rules.specs.Fits.{is_factor}
use Rattle.lf_rules.specs.Lines.{line_at, has_line, with_line, without_line, lines_of_set}
use Rattle.lf_levels.specs.LineTable.{LineTable, IsLineTable, set_in, is_full}
use Rattle.lf_levels.specs.Rows.{Line, is_free, is_on, lines_of, IsInOwnRow, HasDirty, AreWholeRows, FindsWay}
use Rattle.lf_levels.proofs.Counting.{worth-yes, worth-no, worth-le, count-set, count-none, count-all, count-short}
use Rattle.lf_levels.proofs.Counting.{part, length-part, part_at, count-part}
use Rattle.lf_levels.proofs.Entries.{sorted_from_rising}
use Rattle.lf_levels.proofs.InWays.{dirty_of, line_at-ways, rising, free_is, on_one, dirty_in-at, dirty_in-none}
use Rattle.lf_levels.proofs.InWays.{dirty_in-has, unseen}
use Rattle.lf_levels.proofs.InWays.{lines_of-put, lines_of-gone, passes, passing-ways, all_free, length-free, free_at}

-- a way with a line on the block
abbrev pub line_on : {M : Type 0} → ℕ → M → Option (Line M)
line_on block dirty = Some (record { block = block; dirty = dirty })

-- tables with one list of lines
abbrev pub table_of : {M : Type 0} → ℕ → ℕ → ℕ → ℕ → List (ℕ × M) → LineTable M
table_of sets ways banks factor lines = record {
  sets = sets;
  ways = ways;
  banks = banks;
  factor = factor;
  lines =
      lines;
}

module _ {M : Type 0} {set : ℕ → ℕ → ℕ → ℕ → ℕ} {is_line : ℕ → M → Bool} {sets ways banks factor : ℕ}
    {rows : List (Option (Line M))}
    (is : AreWholeRows set is_line sets ways banks factor rows) where
  abbrev of : ℕ → ℕ
  of block = set banks factor sets block

  -- the row of a block's set lies within the rows
  pub row_within : (block : ℕ) → of block * ways + ways ≤ length rows
  row_within block = omega (arith, row_fits (of block) ways sets ways (is.below block) (omega arith), is.each_set)

  -- where a row begins, by the table
  pub row_is : (table : LineTable M) (row block : ℕ) → table_of sets ways banks factor (lines_of rows) ≡ table →
      row ≡ set_in set table block * table.ways → row ≡ of block * ways
  row_is table row block same e = e ∙ sym (ap (λ (t : LineTable M). set_in set t block * t.ways) same)

  -- a line of a set stands in its row
  at_home : (block place : ℕ) (way : Option (Line M)) → IsInOwnRow of ways place way →
      passes (λ b. of b == of block) way ≡ true → (of block * ways ≤ place) × (place < of block * ways + ways)
  at_home block place None h e = absurd (cc e)
  at_home block place (Some line) h e = subst (λ n. (n * ways ≤ place) × (place < n * ways + ways))
      (eqb-true (of line.block) (of block) e) h

  on_set : (block : ℕ) (way : Option (Line M)) → is_on block way ≡ true → passes (λ b. of b == of block) way ≡ true
  on_set block None e = absurd (cc e)
  on_set block (Some line) e = eq-eqb (of line.block) (of block) (ap of (eqb-true line.block block e))

  -- a line in the row of a set is of the set
  in_row : (block place : ℕ) (way : Option (Line M)) → of block * ways ≤ place → place < of block * ways + ways →
      IsInOwnRow of ways place way
      → is_free way ≡ false → passes (λ b. of b == of block) way ≡ true
  in_row block place None low high h e = absurd (cc e)
  in_row block place (Some line) low high h e =
      eq-eqb (of line.block) (of block)
      ((same_from_place (of line.block) (place - of line.block * ways) (of block) (place - of block * ways) ways
      (omega (arith, h.0, h.1)) (omega arith) (omega (arith, h.0, h.1))).0)

  -- ---- what a search of a row says

  pub line_at-found : (block way : ℕ) → FindsWay (is_on block) rows (of block * ways) ways (Some way) →
      line_at (lines_of rows) block ≡ dirty_of (get_or rows way None)
  line_at-found block way found =
      let inside : way < length rows = omega (arith, found.1, row_within block) in
      line_at-ways block rows ∙ dirty_in-at block rows way inside found.2 (is.once block)

  pub line_at-none : (block : ℕ) → FindsWay (is_on block) rows (of block * ways) ways None →
      line_at (lines_of rows) block ≡ None
  line_at-none block none = line_at-ways block rows ∙ dirty_in-none block rows (count-none (is_on block) rows None off)
    where
      off : (k : ℕ) → k < length rows → is_on block (get_or rows k None) ≡ false
      off k lt = ⊎_elim
          (λ on. let home = at_home block k (get_or rows k None) (is.home k lt) (on_set block (get_or rows k None) on)
          in none k home.0 home.1)
          (λ off. off)
          (cases_Bool (is_on block (get_or rows k None)))

  some_dirty : (block : ℕ) (way : Option (Line M)) → is_on block way ≡ true → is_some (dirty_of way) ≡ true
  some_dirty block None e = absurd (cc e)
  some_dirty block (Some line) e = refl

  pub has-is : (block : ℕ) (result : Option ℕ) → FindsWay (is_on block) rows (of block * ways) ways result →
      has_line (lines_of rows) block ≡ is_some result
  has-is block None h = ap is_some (line_at-none block h)
  has-is block (Some way) h = ap is_some (line_at-found block way h) ∙ some_dirty block (get_or rows way None) h.2

  -- ---- how many lines a set has

  abbrev in_part : ℕ → ℕ
  in_part block = count_by (passes (λ b. of b == of block))
      (part (passes (λ b. of b == of block)) rows (of block * ways) ways None (row_within block))

  count_is : (block : ℕ) → lines_of_set of (lines_of rows) block ≡ in_part block
  count_is block =
      passing-ways (λ b. of b == of block) rows is.once
      ∙ count-part (passes (λ b. of b == of block)) rows (of block * ways) ways None (row_within block)
      (λ k lt e. at_home block k (get_or rows k None) (is.home k lt) e)

  long : (block : ℕ) → length (part (passes (λ b. of b == of block)) rows (of block * ways) ways None
      (row_within block)) ≡ ways
  long block = length-part (passes (λ b. of b == of block)) rows (of block * ways) ways None (row_within block)

  place_in_part : (block k : ℕ) → k < ways → get_or (part (passes (λ b. of b == of block)) rows (of block * ways) ways
      None (row_within block)) k None ≡ get_or rows (of block * ways + k) None
  place_in_part block k lt = part_at (passes (λ b. of b == of block)) rows (of block * ways) ways None
      (row_within block) k lt

  bounded : (block : ℕ) → lines_of_set of (lines_of rows) block ≤ ways
  bounded block =
      omega (
        arith,
        count_is block,
        long block,
        count_by-le-length (passes (λ b. of b == of block))
            (part (passes (λ b. of b == of block)) rows (of block * ways) ways None (row_within block)),
      )

  each_line : (block : ℕ) → IfSome (line_at (lines_of rows) block) (λ dirty. is_line factor dirty ≡ true)
  each_line block = subst (λ o. IfSome o (λ dirty. is_line factor dirty ≡ true)) (sym (line_at-ways block rows))
      (dirty_in-has (is_line factor) block rows is.masks)

  pub is_table : IsLineTable set is_line (table_of sets ways banks factor (lines_of rows))
  is_table = record { sorted = sorted_from_rising (lines_of rows) (rising rows); bounded = bounded; masks = each_line }

  no_line : (test : ℕ → Bool) (way : Option (Line M)) → is_free way ≡ true → passes test way ≡ false
  no_line test None e = refl
  no_line test (Some line) e = absurd (cc e)

  pub full-found : (block way : ℕ) → FindsWay is_free rows (of block * ways) ways (Some way) →
      is_full set (table_of sets ways banks factor (lines_of rows)) block ≡ false
  full-found block way found =
      let k = way - of block * ways in
      let at : get_or rows (of block * ways + k) None ≡ get_or rows way None =
      ap (λ n. get_or rows n None) (omega (arith, found.0)) in
      let test = passes (λ b. of b == of block) in
      let few = count-short test (part test rows (of block * ways) ways None (row_within block)) k None
      (omega (arith, long block, found.0, found.1))
      (ap test (place_in_part block k (omega (arith, found.0, found.1)) ∙ at)
      ∙ no_line (λ b. of b == of block) (get_or rows way None) found.2) in
      ap not (lt-ltb (lines_of_set of (lines_of rows) block) ways (omega (arith, count_is block, few, long block)))

  pub full-none : (block : ℕ) → FindsWay is_free rows (of block * ways) ways None →
      is_full set (table_of sets ways banks factor (lines_of rows)) block ≡ true
  full-none block none =
      let test = passes (λ b. of b == of block) in
      let all = count-all test (part test rows (of block * ways) ways None (row_within block)) None (λ k lt.
      let here : k < ways = omega (arith, lt, long block) in
      ap test (place_in_part block k here)
      ∙ in_row block (of block * ways + k) (get_or rows (of block * ways + k) None) (omega arith) (omega arith)
      (is.home (of block * ways + k) (omega (arith, row_within block)))
      (none (of block * ways + k) (omega arith) (omega arith))) in
      ap not (le-ltb (lines_of_set of (lines_of rows) block) ways (omega (arith, count_is block, all, long block)))

  pub full-is : (block : ℕ) (result : Option ℕ) → FindsWay is_free rows (of block * ways) ways result →
      is_full set (table_of sets ways banks factor (lines_of rows)) block ≡ not (is_some result)
  full-is block None h = full-none block h
  full-is block (Some way) h = full-found block way h

  -- ---- how the rows change

  -- what holds of each way still does, where it holds of the new one
  each_after : (P : ℕ → Option (Line M) → Type 0) → ((place : ℕ) → place < length rows →
      P place (get_or rows place None)) → (way : ℕ) (new : Option (Line M)) → way < length rows → P way new
      → (place : ℕ) → place < length (slice_set rows way new) → P place (get_or (slice_set rows way new) place None)
  each_after P each way new inside here place lt = ⊎_elim
      (λ e. subst (λ n. P n (get_or (slice_set rows way new) n None)) (sym e)
      (subst (λ w. P way w) (sym (get_or-set_same rows way new None inside)) here))
      (λ ne. subst (λ w. P place w) (sym (get_or-set_other rows way place new None ne))
      (each place (omega (arith, lt, length-set rows way new))))
      (cases_eq place way)

  whole_after : (way : ℕ) (new : Option (Line M)) → way < length rows → IsInOwnRow of ways way new →
      HasDirty (is_line factor) new
      → ((block : ℕ) → count_by (is_on block) (slice_set rows way new) ≤ 1) →
      AreWholeRows set is_line sets ways banks factor (slice_set rows way new)
  whole_after way new inside home has once = record {
    some_sets = is.some_sets;
    below = is.below;
    few_sets = is.few_sets;
    few_ways = is.few_ways;
    some_banks = is.some_banks;
    in_range = is.in_range;
    each_set = length-set rows way new ∙ is.each_set;
    home = each_after (IsInOwnRow of ways) is.home way new inside home;
    masks = each_after (λ place. HasDirty (is_line factor)) is.masks way new inside has;
    once = once;
  }

  -- ---- a line comes

  module _ (block way : ℕ) (dirty : M) (found : FindsWay is_free rows (of block * ways) ways (Some way))
      (absent : line_at (lines_of rows) block ≡ None)
      (has : is_line factor dirty ≡ true) where
    free_inside : way < length rows
    free_inside = omega (arith, found.1, row_within block)

    free_way : get_or rows way None ≡ None
    free_way = free_is (get_or rows way None) found.2

    once_filled : (y : ℕ) → count_by (is_on y) (slice_set rows way (line_on block dirty)) ≤ 1
    once_filled y =
        let change = count-set (is_on y) rows way (line_on block dirty) None free_inside in
        ⊎_elim
        (λ e. let none : count_by (is_on y) rows ≡ 0 = unseen y rows (is.once y)
        (sym (line_at-ways y rows) ∙ subst (λ k. line_at (lines_of rows) k ≡ None) e absent) in
        omega (arith, change, none, worth-le (is_on y) (line_on block dirty)))
        (λ ne. omega (arith, change, is.once y, worth-no (is_on y) (line_on block dirty) (ne_eqb block y ne)))
        (cases_eq block y)

    pub whole-filled : AreWholeRows set is_line sets ways banks factor (slice_set rows way (line_on block dirty))
    whole-filled = whole_after way (line_on block dirty) free_inside (found.0, found.1) has once_filled

    pub lines-filled : lines_of (slice_set rows way (line_on block dirty)) ≡ with_line (lines_of rows) block dirty
    lines-filled = lines_of-put rows way block free_inside (λ y ne. ap (is_on y) free_way) dirty (once_filled block)

  -- ---- the block's line changes or goes

  module _ (block way : ℕ) (found : FindsWay (is_on block) rows (of block * ways) ways (Some way)) where
    line_inside : way < length rows
    line_inside = omega (arith, found.1, row_within block)

    no_other : (y : ℕ) → block ≢ y → is_on y (get_or rows way None) ≡ false
    no_other y ne = on_one block y (get_or rows way None) found.2 ne

    once_set : (dirty : M) (y : ℕ) → count_by (is_on y) (slice_set rows way (line_on block dirty)) ≤ 1
    once_set dirty y =
        let change = count-set (is_on y) rows way (line_on block dirty) None line_inside in
        ⊎_elim
        (λ e. let was = worth-yes (is_on y) (get_or rows way None)
        (subst (λ k. is_on k (get_or rows way None) ≡ true) e found.2) in
        omega (arith, change, was, is.once y, worth-le (is_on y) (line_on block dirty)))
        (λ ne. omega (arith, change, is.once y, worth-no (is_on y) (line_on block dirty) (ne_eqb block y ne)))
        (cases_eq block y)

    -- what is dirty of the line in the way
    pub has-found : (line : Line M) → Some line ≡ get_or rows way None → is_line factor line.dirty ≡ true
    has-found line e = subst (HasDirty (is_line factor)) (sym e) (is.masks way line_inside)

    pub whole-set : (dirty : M) → is_line factor dirty ≡ true →
        AreWholeRows set is_line sets ways banks factor (slice_set rows way (line_on block dirty))
    whole-set dirty has = whole_after way (line_on block dirty) line_inside (found.0, found.1) has (once_set dirty)

    pub lines-set : (dirty : M) → lines_of (slice_set rows way (line_on block dirty))
        ≡ with_line (lines_of rows) block dirty
    lines-set dirty = lines_of-put rows way block line_inside no_other dirty (once_set dirty block)

    once_gone : (y : ℕ) → count_by (is_on y) (slice_set rows way None) ≤ 1
    once_gone y = omega (arith, count-set (is_on y) rows way None None line_inside, is.once y)

    none_left : count_by (is_on block) (slice_set rows way None) ≡ 0
    none_left = omega (
      arith,
      count-set (is_on block) rows way None None line_inside,
      is.once block,
      worth-yes
          (is_on block) (get_or rows way None) found.2,
    )

    pub whole-gone : AreWholeRows set is_line sets ways banks factor (slice_set rows way None)
    whole-gone = whole_after way None line_inside tt tt once_gone

    pub lines-gone : lines_of (slice_set rows way None) ≡ without_line (lines_of rows) block
    lines-gone = lines_of-gone rows way block line_inside no_other none_left

-- ---- a new table, whose ways are free

pub whole-new : {M : Type 0} (set : ℕ → ℕ → ℕ → ℕ → ℕ) (is_line : ℕ → M → Bool) (sets ways banks factor : ℕ)
    (rows : List (Option (Line M))) → 0 < sets → sets ≤ 4096 → ways ≤ 16 → 0 < banks → is_factor factor ≡ true
    → ((b f s block : ℕ) → 0 < s → set b f s block < s) → rows ≡ all_free (sets * ways) →
    AreWholeRows set is_line sets ways banks factor rows
whole-new {M} set is_line sets ways banks factor rows some few few_ways some_banks in_range below e =
    subst (λ r. AreWholeRows set is_line sets ways banks factor r) (sym e) (record {
      some_sets = some;
      below = λ block. below banks factor sets block some;
      few_sets = few;
      few_ways = few_ways;
      some_banks = some_banks;
      in_range = in_range;
      each_set = length-free M (sets * ways);
      home = λ place lt. subst (λ w. IsInOwnRow (λ block. set banks factor sets block) ways place w)
          (sym (free_at M (sets * ways) place (omega (arith, lt, length-free M (sets * ways))))) tt;
      masks = λ place lt. subst (HasDirty (is_line factor)) (sym
          (free_at M (sets * ways) place (omega (arith, lt, length-free M (sets * ways))))) tt;
      once =
          λ block. omega (
            arith,
            count-none (is_on {M = M} block) (all_free (sets * ways)) None
                (λ k lt. ap (is_on {M = M} block) (free_at M (sets * ways) k
                (omega (arith, lt, length-free M (sets * ways))))),
          );
    })
