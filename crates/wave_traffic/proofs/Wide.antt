-- The dirty lines of level two, as flags of their lines.
use Rattle.std.proofs.Common.{◌≡◌, ℕ, ◌<◌, ◌==◌, Bool, true, false, cond, not, List, [], ◌∷◌, length, set, Option}
use Rattle.std.proofs.Common.{Some, None, refl, sym, ap, subst, ◌∙◌, eqb-true, zero, suc, arith}
use Rattle.std.proofs.Common.{Ordering, Less, Equal, Greater}
use Rattle.std.proofs.lemmas.Bool.{eqb-false, or_right}
use Rattle.std.proofs.lemmas.List.{set-get_or}
use Rattle.std.specs.Prelude.{unwrap_or, option_map, bit_or}
use Rattle.std.specs.Int.Bits.{or_zero_r}
use Rattle.std.specs.List.{list_any}
use Rattle.std.specs.Ordering.{nat_cmp, match_ordering, is_eq}
use Rattle.lf_rules.specs.Address.{Masks, mask_at, clean_mask}
use Rattle.lf_rules.specs.declared.mask.Mask.{Mask}
use Rattle.lf_rules.specs.Lines.{Lines, WideLines, line_at, with_line, without_line, dirty_mask, dirty_masks, no_masks}
use Rattle.lf_rules.specs.Lines.{marked, mark_at, clean_masks}
use Rattle.wave_traffic.specs.Flow.{make_dirty, make_clean, make_dirty_if}
use Rattle.wave_traffic.specs.Laws.{dirty_blocks, is_dirty, dirty_seconds}
use Rattle.wave_traffic.proofs.Dirty.{Rising, put_rising, drop_rising, put_dirty, drop_dirty, kept_dirty}
use Rattle.wave_traffic.proofs.Stores.{some_of_both}

-- ---- flags

abbrev flag : Masks → ℕ
flag masks = cond (is_dirty masks) 1 0

-- each line with 1 where it is dirty
abbrev pub flags : WideLines → Lines
flags [] = []
flags (l ∷ lines) = (l.0, flag l.1) ∷ flags lines

flags-dirty : (lines : WideLines) → dirty_blocks (flags lines) ≡ dirty_seconds lines
flags-dirty [] = refl
flags-dirty (l ∷ lines) =
    let same = flags-dirty lines in
    elim (is_dirty l.1) as (λ d. cond (cond d 1 0 == 0) (dirty_blocks (flags lines)) (l.0 ∷ dirty_blocks (flags lines))
    ≡ cond d (l.0 ∷ dirty_seconds lines) (dirty_seconds lines)) [
      | true ↦ ap (λ (ks : List ℕ). l.0 ∷ ks) same
      | false ↦ same
    ]

flags-with : (lines : WideLines) (b : ℕ) (m : Masks) → flags (with_line lines b m) ≡ with_line (flags lines) b (flag m)
flags-with [] b m = refl
flags-with (l ∷ lines) b m = go (nat_cmp b l.0) (flags-with lines b m)
  where
    go : (o : Ordering) → flags (with_line lines b m) ≡ with_line (flags lines) b (flag m)
        → flags (match_ordering o ((b, m) ∷ l ∷ lines) ((l.0, m) ∷ lines) (l ∷ with_line lines b m))
        ≡ match_ordering o ((b, flag m) ∷ flags (l ∷ lines)) ((l.0, flag m) ∷ flags lines)
        ((l.0, flag l.1) ∷ with_line (flags lines) b (flag m))
    go Less same = refl
    go Equal same = refl
    go Greater same = ap (λ (rest : Lines). (l.0, flag l.1) ∷ rest) same

flags-without : (lines : WideLines) (b : ℕ) → flags (without_line lines b) ≡ without_line (flags lines) b
flags-without [] b = refl
flags-without (l ∷ lines) b =
    let same = flags-without lines b in
    elim (l.0 == b) as (λ c. flags (cond (not c) (l ∷ without_line lines b) (without_line lines b))
    ≡ cond (not c) ((l.0, flag l.1) ∷ without_line (flags lines) b) (without_line (flags lines) b)) [
      | true ↦ same
      | false ↦ ap (λ (rest : Lines). (l.0, flag l.1) ∷ rest) same
    ]

flags-at : (lines : WideLines) (b : ℕ) → line_at (flags lines) b ≡ option_map flag (line_at lines b)
flags-at [] b = refl
flags-at (l ∷ lines) b =
    let same = flags-at lines b in
    elim (is_eq (nat_cmp b l.0)) as (λ c. cond c (Some (flag l.1)) (line_at (flags lines) b)
    ≡ option_map flag (cond c (Some l.1) (line_at lines b))) [
      | true ↦ refl
      | false ↦ same
    ]

flag_or : (o : Option Masks) → unwrap_or (option_map flag o) 0 ≡ flag (unwrap_or o no_masks)
flag_or None = refl
flag_or (Some m) = refl

flags-mask : (lines : WideLines) (b : ℕ) → dirty_mask (flags lines) b ≡ flag (dirty_masks lines b)
flags-mask lines b = ap (λ (o : Option ℕ). unwrap_or o 0) (flags-at lines b) ∙ flag_or (line_at lines b)

-- ---- masks

none_clean : (n : ℕ) → is_dirty (clean_masks n) ≡ false
none_clean zero = refl
none_clean (suc n) = none_clean n

abbrev is_some_byte : Mask → Bool
is_some_byte mask = not (mask.0 == 0)

one_dirty : (ms : List Mask) (place : ℕ) (m : Mask) → place < length ms → is_some_byte m ≡ true →
    list_any is_some_byte (set ms place m) ≡ true
one_dirty [] place m inside is = absurd (omega (arith, inside))
one_dirty (k ∷ ms) zero m inside is = rw is refl
one_dirty (k ∷ ms) (suc place) m inside is =
    or_right (is_some_byte k) (list_any is_some_byte (set ms place m)) (one_dirty ms place m (omega (arith, inside)) is)

marked_dirty : (masks : Masks) (place mask : ℕ) → place < length masks.items → 0 < mask →
    is_dirty (marked masks place mask) ≡ true
marked_dirty masks place mask inside some =
    one_dirty masks.items place (record { 0 = bit_or (mask_at masks place) mask }) inside
    (ap not (some_of_both (mask_at masks place) mask some))

marked_none : (masks : Masks) (place : ℕ) → marked masks place 0 ≡ masks
marked_none masks place =
    ap (λ (n : ℕ). record { items = set masks.items place (record { 0 = n }) }) (or_zero_r (mask_at masks place))
    ∙ ap (λ (ms : List Mask). record { items = ms }) (set-get_or masks.items place clean_mask)

-- ---- a line of level two

module _ (lines : WideLines) (rising : Rising (flags lines)) (second : ℕ) where
  pub fill_rising : (masks : Masks) → Rising (flags (with_line lines second masks))
  fill_rising masks = subst Rising (sym (flags-with lines second masks))
      (put_rising (flags lines) second (flag masks) rising)

  pub leave_rising : Rising (flags (without_line lines second))
  leave_rising = subst Rising (sym (flags-without lines second)) (drop_rising (flags lines) second rising)

  with_masks : (masks : Masks) → dirty_seconds (with_line lines second masks)
      ≡ dirty_blocks (with_line (flags lines) second (flag masks))
  with_masks masks = sym (flags-dirty (with_line lines second masks)) ∙ ap dirty_blocks (flags-with lines second masks)

  -- a fill is clean
  pub filled_clean : (factor : ℕ) → make_clean (dirty_seconds lines) second
      ≡ dirty_seconds (with_line lines second (clean_masks factor))
  filled_clean factor =
      sym (with_masks (clean_masks factor)
      ∙ ap (λ (d : Bool). dirty_blocks (with_line (flags lines) second (cond d 1 0))) (none_clean factor)
      ∙ put_dirty (flags lines) second 0 rising
      ∙ ap (λ (ks : List ℕ). make_clean ks second) (flags-dirty lines))

  pub left_clean : make_clean (dirty_seconds lines) second ≡ dirty_seconds (without_line lines second)
  left_clean = ap (λ (ks : List ℕ). make_clean ks second) (sym (flags-dirty lines))
      ∙ sym (drop_dirty (flags lines) second rising)
      ∙ ap dirty_blocks (sym (flags-without lines second)) ∙ flags-dirty (without_line lines second)

  -- what is dirty of a line of level one is dirty in its second-level block
  pub evicted_dirty : (place mask : ℕ) → place < length (dirty_masks lines second).items →
      make_dirty_if (not (mask == 0)) (dirty_seconds lines) second ≡ dirty_seconds (mark_at lines second place mask)
  evicted_dirty place mask inside = go (mask == 0) refl
    where
      old : Masks
      old = dirty_masks lines second

      go : (z : Bool) → (mask == 0) ≡ z → make_dirty_if (not z) (dirty_seconds lines) second
          ≡ dirty_seconds (mark_at lines second place mask)
      go true e =
          sym (flags-dirty lines)
          ∙ sym (kept_dirty (flags lines) second rising)
          ∙ ap (λ (f : ℕ). dirty_blocks (with_line (flags lines) second f)) (flags-mask lines second)
          ∙ ap (λ (m : Masks). dirty_blocks (with_line (flags lines) second (flag m))) (sym (marked_none old place))
          ∙ sym (with_masks (marked old place 0))
          ∙ ap (λ (n : ℕ). dirty_seconds (mark_at lines second place n)) (sym (eqb-true mask 0 e))
      go false e =
          let some : 0 < mask = omega (arith, eqb-false mask 0 e) in
          sym (with_masks (marked old place mask)
          ∙ ap (λ (d : Bool). dirty_blocks (with_line (flags lines) second (cond d 1 0)))
          (marked_dirty old place mask inside some)
          ∙ put_dirty (flags lines) second 1 rising
          ∙ ap (λ (ks : List ℕ). make_dirty ks second) (flags-dirty lines))
