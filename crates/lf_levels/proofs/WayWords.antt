-- The words of one way, and what a write to them leaves.
use Rattle.std.proofs.Common.{ℕ, ◌≡◌, ◌<◌, ◌≤◌, ◌+◌, ◌-◌, ◌*◌, ◌/◌, true, List, ◌++◌, length, map, get_or, Vec, Global}
use Rattle.std.proofs.Common.{sym, ap, ◌∙◌, subst, arith, length-set, get_or-set_same, get_or-set_other, ext_get_or}
use Rattle.std.specs.Prelude.{slice_set, take, drop, bit_or}
use Rattle.std.specs.Vec.{with_items}
use Rattle.std.proofs.Math.Logic.{⊎_elim}
use Rattle.std.proofs.Math.Nat.{div-mul-le_self, mul-div_cancel}
use Rattle.std.proofs.lemmas.Bool.{cases_order}
use Rattle.std.proofs.lemmas.Bool.Decides.{nat_tests}
use Rattle.std.proofs.lemmas.Nat.{row_fits}
use Rattle.std.proofs.lemmas.List.{length-append, length-take, length-drop, length-map, map-set, get_or-map}
use Rattle.std.proofs.lemmas.List.{with_items_is}
use Rattle.std.proofs.lemmas.List.Edits.{length-between}
use Rattle.std.proofs.lemmas.List.FromFn.{length-map-range_with_len, get_or-map-range_with_len}
use Rattle.std.proofs.lemmas.Slice.{between_is, between-put_mid, take-put_mid_below, drop-put_mid}
use borrow.Rule.Slice.PartMut.{put_mid}
use Rattle.lf_rules.specs.declared.mask.Mask.{Mask}
use Rattle.lf_rules.specs.Address.{clean_mask}
use Rattle.lf_rules.specs.Fits.{is_factor}
use Rattle.lf_rules.specs.Lines.{marked}
use Rattle.lf_levels.specs.WayWords.{DirtyWays, words_at, ways_of, with_way, mask_of_word, masks_of}

-- the words of a way that is not the last end where the next begins, or before
ends_before : (a b each : ℕ) → a < b → a * each + each ≤ b * each
ends_before a b each lt = row_fits a each b each lt (omega arith)

module _ {M : Type 0} (dirty_of : List ℕ → M) (each : ℕ) (some : 0 < each) where
  pub length-ways : (words : List ℕ) → length (ways_of dirty_of each words) ≡ length words / each
  length-ways words = length-map-range_with_len (λ way. dirty_of (words_at each words way)) 0 (length words / each)

  -- words for so many ways
  pub ways_new : (words : List ℕ) (count : ℕ) → length words ≡ count * each →
      length (ways_of dirty_of each words) ≡ count
  ways_new words count e = length-ways words ∙ ap (λ n. n / each) e ∙ mul-div_cancel count some

  -- what is dirty of one way's line
  pub way_is : (words : List ℕ) (way : ℕ) → way < length (ways_of dirty_of each words) → (d : M) →
      get_or (ways_of dirty_of each words) way d ≡ dirty_of (words_at each words way)
  way_is words way inside d = get_or-map-range_with_len (λ n. dirty_of (words_at each words n)) 0 (length words / each)
      way way d (omega (arith, inside, length-ways words)) (omega arith)

  module _ (words : List ℕ) (way : ℕ) (inside : way < length (ways_of dirty_of each words)) where
    pub way_fits : way * each + each ≤ length words
    way_fits = omega (
      arith,
      row_fits way each (length words / each) each (omega (arith, inside, length-ways words)) (omega arith),
      div-mul-le_self (length words) each,
    )

    -- the way's words are written
    module _ (k : ℕ) (all : k ≡ each) (new : List ℕ) (same : length new ≡ each) where
      abbrev after : List ℕ
      after = put_mid (way * each) k words new

      pub length-after : length after ≡ length words
      length-after = omega (
        arith,
        way_fits,
        same,
        all,
        length-append (take (way * each) words) (new ++ drop k (drop (way * each) words)),
        length-append new (drop k (drop (way * each) words)),
        length-take (way * each) words,
        length-drop k (drop (way * each) words),
        length-drop (way * each) words,
      )

      words_same : words_at each after way ≡ new
      words_same = between-put_mid (way * each) k words new (way * each + each) (omega (arith, way_fits))
          (omega (arith, same))

      words_below : (other : ℕ) → other < way → words_at each after other ≡ words_at each words other
      words_below other lt =
          between_is after (other * each) (other * each + each)
          ∙ ap (drop (other * each)) (take-put_mid_below (way * each) k words new (other * each + each)
          (ends_before other way each lt) (omega (arith, way_fits)))
          ∙ sym (between_is words (other * each) (other * each + each))

      words_above : (other : ℕ) → way < other → words_at each after other ≡ words_at each words other
      words_above other lt = ap (take (other * each + each - other * each))
          (drop-put_mid (way * each) k words new (other * each)
          (omega (arith, all, ends_before way other each lt)) (omega (arith, way_fits)) (same ∙ sym all))

      pub ways_put : (d : M) → dirty_of new ≡ d →
          ways_of dirty_of each after ≡ slice_set (ways_of dirty_of each words) way d
      ways_put d is = ext_get_or d (ways_of dirty_of each after) (slice_set (ways_of dirty_of each words) way d)
          (many ∙ sym (length-set (ways_of dirty_of each words) way d)) at
        where
          many : length (ways_of dirty_of each after) ≡ length (ways_of dirty_of each words)
          many = length-ways after ∙ ap (λ n. n / each) length-after ∙ sym (length-ways words)

          other : (i : ℕ) → i < length (ways_of dirty_of each after) → (i ≡ way → ⊥)
              → words_at each after i ≡ words_at each words i
              → get_or (ways_of dirty_of each after) i d ≡ get_or (slice_set (ways_of dirty_of each words) way d) i d
          other i lt apart e =
              way_is after i lt d ∙ ap dirty_of e ∙ sym (way_is words i (omega (arith, lt, many)) d)
              ∙ sym (get_or-set_other (ways_of dirty_of each words) way i d d apart)

          at : (i : ℕ) → i < length (ways_of dirty_of each after) →
              get_or (ways_of dirty_of each after) i d ≡ get_or (slice_set (ways_of dirty_of each words) way d) i d
          at i lt = ⊎_elim
              (λ e. ap (λ n. get_or (ways_of dirty_of each after) n d) e
              ∙ way_is after way (omega (arith, lt, e)) d ∙ ap dirty_of words_same ∙ is
              ∙ sym (get_or-set_same (ways_of dirty_of each words) way d d inside)
              ∙ sym (ap (λ n. get_or (slice_set (ways_of dirty_of each words) way d) n d) e))
              (λ apart. ⊎_elim
              (λ low. other i lt (λ e. absurd (omega (arith, low, e))) (words_below i low))
              (λ high. other i lt (λ e. absurd (omega (arith, high, e))) (words_above i high))
              apart)
              (cases_order i way)

-- the ways of so many words each, as a caller sees them
module _ {M : Type 0} (dirty_of : List ℕ → M) {width factor : ℕ} {dirty : DirtyWays M} {each way : ℕ}
    (v : Vec ℕ Global) (shown : record { factor = factor; ways = ways_of dirty_of width v.items } ≡ dirty)
    (some : 0 < width) (is : each ≡ width) (inside : way < length dirty.ways) where
  shown_by : record { factor = factor; ways = ways_of dirty_of each v.items } ≡ dirty
  shown_by = subst (λ n. record { factor = factor; ways = ways_of dirty_of n v.items } ≡ dirty) (sym is) shown

  some_words : 0 < each
  some_words = omega (arith, some, is)

  within : way < length (ways_of dirty_of each v.items)
  within = subst (λ (d : DirtyWays M). way < length d.ways) (sym shown_by) inside

  pub words_fit : way * each + each ≤ length v.items
  words_fit = way_fits dirty_of each some_words v.items way within

  -- the words, as a slice of them was shown
  module _ (slice : List ℕ) (seen : slice ≡ v.items) where
    pub part_long : length (words_at each slice way) ≡ each
    part_long = length-between slice (way * each) (way * each + each)
        (omega (arith, words_fit, ap (λ (ws : List ℕ). length ws) seen)) ∙ omega arith

    pub read_way : (read : M) → read ≡ dirty_of (words_at each slice way) → (d : M) → read ≡ get_or dirty.ways way d
    read_way read e d = e ∙ ap (λ (ws : List ℕ). dirty_of (words_at each ws way)) seen
        ∙ sym (way_is dirty_of each some_words v.items way within d)
        ∙ ap (λ (shape : DirtyWays M). get_or shape.ways way d) shown_by

    -- the words are written
    pub written_way : (new : List ℕ) (now : M) → length new ≡ length (words_at each slice way) → dirty_of new ≡ now →
        record {
          factor = factor;
          ways = ways_of dirty_of width
              (with_items v (put_mid (way * each) (way * each + each - way * each) slice new)).items;
        } ≡ with_way dirty way now
    written_way new now same told =
        ap (λ n. record { factor = factor; ways = ways_of dirty_of n (with_items v after).items }) (sym is)
        ∙ ap (λ (ws : List ℕ). record { factor = factor; ways = ways_of dirty_of each ws }) (kept ∙ made)
        ∙ ap (λ (ms : List M). record { factor = factor; ways = ms })
        (ways_put dirty_of each some_words v.items way within k (omega arith) new (same ∙ part_long) now told)
        ∙ ap (λ (d : DirtyWays M). with_way d way now) shown_by
      where
        k : ℕ
        k = way * each + each - way * each

        after : List ℕ
        after = put_mid (way * each) k slice new

        made : after ≡ put_mid (way * each) k v.items new
        made = ap (λ (ws : List ℕ). put_mid (way * each) k ws new) seen

        kept : (with_items v after).items ≡ after
        kept = with_items_is v after (ap (λ (ws : List ℕ). length ws) made
            ∙ length-after dirty_of each some_words v.items way within k (omega arith) new (same ∙ part_long)
            ∙ sym v.ok.0)

-- ---- level two

-- a line has some first-level blocks
pub some_factor : (factor : ℕ) → is_factor factor ≡ true → 0 < factor
some_factor factor is = grind (arith, nat_tests)

-- a word that gains bytes is a mask that gains them
pub masks_gain : (words : List ℕ) (place mask : ℕ) → place < length words →
    masks_of (slice_set words place (bit_or (get_or words place 0) mask)) ≡ marked (masks_of words) place mask
masks_gain words place mask inside =
    ap (λ ms. record { items = ms }) (map-set mask_of_word words place (bit_or (get_or words place 0) mask)
    ∙ ap (λ (m : Mask). slice_set (map mask_of_word words) place (record { 0 = bit_or m.0 mask }))
    (sym (get_or-map mask_of_word words place 0 clean_mask inside)))

-- words that are those of the masks
pub masks_put : (words : List ℕ) (masks : List Mask) → length words ≡ length masks →
    ((k : ℕ) → k < length words → get_or words k 0 ≡ (get_or masks k clean_mask).0) → map mask_of_word words ≡ masks
masks_put words masks many each =
    ext_get_or clean_mask (map mask_of_word words) masks (length-map words mask_of_word ∙ many) (λ k lt.
    let inside : k < length words = omega (arith, lt, length-map words mask_of_word) in
    get_or-map mask_of_word words k 0 clean_mask inside ∙ ap mask_of_word (each k inside))
