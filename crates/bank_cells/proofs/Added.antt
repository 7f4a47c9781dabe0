-- The cells after a second-level block got a place, and its blocks cells of which nothing is known.
use Rattle.std.proofs.Common.{◌≡◌, ℕ, ◌+◌, ◌-◌, ◌*◌, ◌/◌, ◌%◌, cond, List, [], ◌∷◌, ◌++◌, Option, Some, None}
use Rattle.std.proofs.Common.{length, get_or, replicate, refl, sym, ap, subst, ◌∙◌, ⊎_elim, ◌⊎◌, inl}
use Rattle.std.proofs.Common.{inr, eq-eqb, ne_eqb, arith, ◌^◌}
use Rattle.std.proofs.Common.{slice_index}
use mathlib.Core.Path.{fun_ext, ap₂}
use Rattle.std.proofs.lemmas.Bool.{cases_eq}
use Rattle.std.proofs.lemmas.List.{get_or_append_left, get_or-append_right, get_or-replicate, get_or_push}
use Rattle.std.proofs.lemmas.List.{length-append}
use Rattle.std.proofs.lemmas.List.{length-replicate}
use Rattle.lf_rules.specs.State.{update}
use Rattle.bank_cells.specs.declared.cell.Cell.{Cell}
use Rattle.bank_cells.specs.declared.known.First.TheVariants as level1
use Rattle.bank_cells.specs.declared.known.Second.{Second}
use Rattle.bank_cells.specs.declared.known.Second.TheVariants as level2
use Rattle.bank_cells.specs.Index.{found_in}
use Rattle.bank_cells.specs.Cells.{CellsView, IsWhole, StaysPlaced, HasSameWords, cell_in, cell_of, cell_at, place_of}
use Rattle.bank_cells.specs.Cells.{nothing}
use Rattle.bank_cells.specs.Cells.{cells_of}
use Rattle.bank_cells.specs.Cells.{second_in, second_at}
use Rattle.bank_cells.proofs.Placed.{place_found, below_product, part_below}
use Rattle.bank_cells.proofs.Words.{word}

-- a block without a cell is in a second-level block without a place
pub no_place : (factor part : ℕ) (place : Option ℕ) → cell_in factor part place ≡ None → place ≡ None
no_place factor part None is = refl
no_place factor part (Some at) is = absurd (cc)

module _ (v : CellsView) (whole : IsWhole v) (places : List (ℕ × ℕ)) (second : ℕ) (blank : Cell)
    (none : place_of v second ≡ None)
    (added : found_in places ≡ update (found_in v.places) second (Some (length v.seconds))) where
  abbrev pub grown : CellsView
  grown = record {
    factor = v.factor;
    places = places;
    seconds = v.seconds ++ level2.Absent ∷ [];
    cells = v.cells ++ replicate v.factor blank;
  }

  pub place_new : (q : ℕ) → second ≡ q → found_in places q ≡ Some (length v.seconds)
  place_new q e = ap (λ (f : ℕ → Option ℕ). f q) added
      ∙ ap (λ b. cond b (Some (length v.seconds)) (found_in v.places q)) (eq-eqb second q e)

  place_old : (q : ℕ) → (second ≡ q → ⊥) → found_in places q ≡ found_in v.places q
  place_old q apart = ap (λ (f : ℕ → Option ℕ). f q) added
      ∙ ap (λ b. cond b (Some (length v.seconds)) (found_in v.places q)) (ne_eqb second q apart)

  -- a place that was found is not that of the new block
  place_stays : (q at : ℕ) → place_of v q ≡ Some at → found_in places q ≡ Some at
  place_stays q at is = place_old q (λ e. let taken : None ≡ Some at = sym none ∙ ap (found_in v.places) e ∙ is in
      absurd (cc)) ∙ is

  word_same : {X : Type 0} (p : Cell → X) → p blank ≡ p nothing → word p grown ≡ word p v
  word_same {X} p same = fun_ext (λ q. ⊎_elim (here q) (elsewhere q) (cases_eq second (q / v.factor)))
    where
      f : ℕ
      f = v.factor

      here : (q : ℕ) → second ≡ q / v.factor → word p grown q ≡ word p v q
      here q e =
          let n = length v.seconds in
          let r = q % v.factor in
          let part : n * v.factor + r - n * v.factor ≡ r = omega arith in
          let absent : place_of v (q / v.factor) ≡ None = ap (found_in v.places) (sym e) ∙ none in
          ap (λ (o : Option ℕ). p (cell_at grown.cells (cell_in v.factor r o))) (place_new (q / v.factor) e)
          ∙ ap p (get_or-append_right v.cells (replicate v.factor blank) (n * v.factor) (n * v.factor + r) nothing
          whole.even (omega arith)
          ∙ ap (λ k. get_or (replicate v.factor blank) k nothing) part
          ∙ get_or-replicate v.factor r blank nothing (part_below v whole q))
          ∙ same ∙ sym (ap (λ (o : Option ℕ). p (cell_at v.cells (cell_in v.factor r o))) absent)

      stays : (q : ℕ) (o : Option ℕ) → place_of v (q / v.factor) ≡ o
          → p (cell_at grown.cells (cell_in v.factor (q % v.factor) o))
          ≡ p (cell_at v.cells (cell_in v.factor (q % v.factor) o))
      stays q None e = refl
      stays q (Some k) e =
          let below = below_product k (length v.seconds) v.factor (q % v.factor) (whole.within (q / v.factor) k e)
          (part_below v whole q) in
          ap p (get_or_append_left v.cells (replicate v.factor blank) nothing (k * v.factor + q % v.factor)
          (omega (arith, below, whole.even)))

      elsewhere : (q : ℕ) → (second ≡ q / v.factor → ⊥) → word p grown q ≡ word p v q
      elsewhere q apart =
          ap (λ (o : Option ℕ). p (cell_at grown.cells (cell_in v.factor (q % v.factor) o)))
          (place_old (q / v.factor) apart)
          ∙ stays q (place_of v (q / v.factor)) refl

  second_same : second_at grown ≡ second_at v
  second_same = fun_ext (λ q. ⊎_elim (here q) (elsewhere q) (cases_eq second q))
    where
      here : (q : ℕ) → second ≡ q → second_at grown q ≡ second_at v q
      here q e =
          let absent : place_of v q ≡ None = ap (found_in v.places) (sym e) ∙ none in
          ap (second_in grown.seconds) (place_new q e)
          ∙ get_or_push v.seconds level2.Absent level2.Absent (length v.seconds) refl
          ∙ sym (ap (second_in v.seconds) absent)

      stays : (q : ℕ) (o : Option ℕ) → place_of v q ≡ o → second_in grown.seconds o ≡ second_in v.seconds o
      stays q None e = refl
      stays q (Some k) e =
          get_or_append_left v.seconds (level2.Absent ∷ []) level2.Absent k (whole.within q k e)

      elsewhere : (q : ℕ) → (second ≡ q → ⊥) → second_at grown q ≡ second_at v q
      elsewhere q apart = ap (second_in grown.seconds) (place_old q apart) ∙ stays q (place_of v q) refl

  longer : length grown.seconds ≡ length v.seconds + 1
  longer = length-append v.seconds (level2.Absent ∷ [])

  -- the place of a block is the new one, or one that was there
  new_or_old : (q at : ℕ) → found_in places q ≡ Some at →
      ((second ≡ q) × (at ≡ length v.seconds)) ⊎ (place_of v q ≡ Some at)
  new_or_old q at is = ⊎_elim
      (λ e. let same : Some at ≡ Some (length v.seconds) = sym is ∙ place_new q e in inl (e, cc))
      (λ apart. inr (sym (place_old q apart) ∙ is)) (cases_eq second q)

  pub whole_grown : IsWhole grown
  whole_grown = record {
    some = whole.some;
    apart = λ s t place first other. elim (new_or_old s place first) [
      | inl a ↦ elim (new_or_old t place other) [
        | inl b ↦ sym a.0 ∙ b.0
        | inr old ↦ let low = whole.within t place old in absurd (omega (arith, a.1, low))
      ]
      | inr old ↦ elim (new_or_old t place other) [
        | inl b ↦ let low = whole.within s place old in absurd (omega (arith, b.1, low))
        | inr also ↦ whole.apart s t place old also
      ]
    ];
    within = λ q place is. elim (new_or_old q place is) [
      | inl a ↦ omega (arith, longer, a.1)
      | inr old ↦ let low = whole.within q place old in omega (arith, longer, low)
    ];
    even =
        let blanks : length (replicate v.factor blank) ≡ v.factor = length-replicate v.factor blank in
        let product : (length v.seconds + 1) * v.factor ≡ length v.seconds * v.factor + v.factor = omega arith in
        length-append v.cells (replicate v.factor blank)
        ∙ omega (arith, whole.even, blanks, product)
        ∙ ap (λ n. n * v.factor) (sym longer);
  }

  module _ (now new : CellsView) (seen : v ≡ now) (made : grown ≡ new) where
    pub whole_new : IsWhole new
    whole_new = subst IsWhole made whole_grown

    pub stays_new : StaysPlaced now new
    stays_new = subst (λ (w : CellsView). StaysPlaced w new) seen (subst (StaysPlaced v) made (record {
      factor = refl;
      place = place_stays;
      cell = λ block at is.
          let found = place_found v.factor (block % v.factor) (place_of v (block / v.factor)) at is in
          ap (cell_in v.factor (block % v.factor)) (place_stays (block / v.factor) found.0 found.1.0)
          ∙ ap Some found.1.1;
    }))

    word_new : {X : Type 0} (p : Cell → X) → p blank ≡ p nothing → word p new ≡ word p now
    word_new p same = ap (word p) (sym made) ∙ word_same p same ∙ ap (word p) seen

    pub words_new : blank.first ≡ level1.Absent → blank.written ≡ 0 → blank.dirty ≡ 0 →
        ((place : ℕ) → slice_index blank.bytes place ≡ 0) → HasSameWords now new
    words_new first written dirty bytes = record {
      first = word_new (λ k. k.first) first;
      written = word_new (λ k. k.written) written;
      dirty = word_new (λ k. k.dirty) dirty;
      memory = word_new (λ (k : Cell). slice_index k.bytes) (fun_ext bytes);
      second = ap second_at (sym made) ∙ second_same ∙ ap second_at seen;
    }

    -- the second-level block has the new place
    pub place_there : place_of new second ≡ Some (length v.seconds)
    place_there = ap (λ (w : CellsView). place_of w second) (sym made) ∙ place_new second refl

-- what is known after a second-level block got the next place
pub record HasGrown (now new : CellsView) (second place : ℕ) : Type 0 where
  pub whole : IsWhole new
  pub there : place_of new second ≡ Some place
  pub words : HasSameWords now new
  pub stays : StaysPlaced now new

pub has_grown : (shift : ℕ) (places more : List (ℕ × ℕ)) (seconds held seconds2 : List Second)
    (cells kept cells2 : List Cell) (now : CellsView) (block place count : ℕ) (blank : Cell) →
    cells_of shift places seconds cells ≡ now → IsWhole (cells_of shift places seconds cells) → cell_of now block ≡ None
    → found_in more ≡ update (found_in places) (block / 2 ^ shift) (Some place) → place ≡ length seconds →
    held ≡ seconds → seconds2 ≡ held ++ level2.Absent ∷ [] → kept ≡ cells → cells2 ≡ kept ++ replicate count blank
    → count ≡ 2 ^ shift → blank.first ≡ level1.Absent → blank.written ≡ 0 → blank.dirty ≡ 0 →
    ((at : ℕ) → slice_index blank.bytes at ≡ 0)
    → HasGrown now (cells_of shift more seconds2 cells2) (block / 2 ^ shift) place
has_grown shift places more seconds held seconds2 cells kept cells2 now block place count blank seen whole absent found
    last same_seconds is_seconds same_cells is_cells is_count first written dirty bytes =
    let v = cells_of shift places seconds cells in
    let second = block / 2 ^ shift in
    let none : place_of v second ≡ None = no_place (2 ^ shift) (block % 2 ^ shift) (found_in places second)
    (ap (λ (w : CellsView). cell_of w block) seen ∙ absent) in
    let added = found ∙ ap (λ n. update (found_in places) second (Some n)) last in
    let made : grown v whole more second blank none added ≡ cells_of shift more seconds2 cells2 =
    ap₂ (λ (ss : List Second) (cs : List Cell). cells_of shift more ss cs)
    (sym (is_seconds ∙ ap (λ (ss : List Second). ss ++ level2.Absent ∷ []) same_seconds))
    (sym (is_cells ∙ ap₂ (λ (cs : List Cell) n. cs ++ replicate n blank) same_cells is_count)) in record {
      whole = whole_new v whole more second blank none added now _ seen made;
      there = place_there v whole more second blank none added now _ seen made ∙ ap Some (sym last);
      words = words_new v whole more second blank none added now _ seen made first written dirty bytes;
      stays = stays_new v whole more second blank none added now _ seen made;
    }
