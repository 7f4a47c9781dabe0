-- The lines that stand in ways.
use Rattle.std.proofs.Common.{ℕ, zero, suc, ◌≡◌, ◌≢◌, ◌<◌, ◌≤◌, ◌==◌, Bool, true, false, cond, List, [], ◌∷◌, length}
use Rattle.std.proofs.Common.{replicate, get_or}
use Rattle.std.proofs.Common.{Option, Some, None, refl, sym, ap, ◌∙◌, subst, arith, eqb-true, eq-eqb, ne_eqb}
use Rattle.std.proofs.Common.{get_or-set_same, length-set}
use Rattle.std.specs.Prelude.{count_by, slice_set, IfSome}
use Rattle.std.proofs.Math.Logic.{⊎_elim}
use Rattle.std.proofs.lemmas.Bool.{cases_Bool, cases_eq}
use Rattle.std.proofs.lemmas.List.{length-replicate, get_or-replicate}
use Rattle.lf_rules.specs.Lines.{line_at, with_line, without_line}
use Rattle.lf_levels.specs.Rows.{Line, is_free, is_on, lines_of, HasDirty}
use Rattle.lf_levels.proofs.Counting.{worth-yes, count-cons, count-some, count-none}
use Rattle.lf_levels.proofs.Entries.{line_put, line_gone, AreRising, rising-with, rising-without, same_lines, passing}
use Rattle.lf_levels.proofs.Entries.{passing-with}

module _ {M : Type 0} where
  -- what is dirty of the line in a way
  abbrev pub dirty_of : Option (Line M) → Option M
  dirty_of None = None
  dirty_of (Some line) = Some line.dirty

  -- what is dirty of the first line on the block
  abbrev pub dirty_in : ℕ → List (Option (Line M)) → Option M
  dirty_in y [] = None
  dirty_in y (way ∷ ways) = cond (is_on y way) (dirty_of way) (dirty_in y ways)

  pub line_at-ways : (y : ℕ) (ways : List (Option (Line M))) → line_at (lines_of ways) y ≡ dirty_in y ways
  line_at-ways y [] = refl
  line_at-ways y (None ∷ ways) = line_at-ways y ways
  line_at-ways y (Some line ∷ ways) = line_put (lines_of ways) line.block line.dirty y
      ∙ ap (cond (line.block == y) (Some line.dirty)) (line_at-ways y ways)

  pub rising : (ways : List (Option (Line M))) → AreRising (lines_of ways)
  rising [] = tt
  rising (None ∷ ways) = rising ways
  rising (Some line ∷ ways) = rising-with (lines_of ways) line.block line.dirty (rising ways)

  pub free_is : (way : Option (Line M)) → is_free way ≡ true → way ≡ None
  free_is None e = refl
  free_is (Some line) e = absurd (cc e)

  -- a line on the block, and on no other
  pub on_one : (block y : ℕ) (way : Option (Line M)) → is_on block way ≡ true → block ≢ y → is_on y way ≡ false
  on_one block y None e apart = refl
  on_one block y (Some line) e apart = ne_eqb line.block y (λ same. apart (sym (eqb-true line.block block e) ∙ same))

  -- ---- a block that has a line once

  skip : (y : ℕ) (way : Option (Line M)) (ways : List (Option (Line M))) → is_on y way ≡ false →
      dirty_in y (way ∷ ways) ≡ dirty_in y ways
  skip y way ways e = ap (λ b. cond b (dirty_of way) (dirty_in y ways)) e

  pub dirty_in-at : (y : ℕ) (ways : List (Option (Line M))) (i : ℕ) → i < length ways →
      is_on y (get_or ways i None) ≡ true → count_by (is_on y) ways ≤ 1
      → dirty_in y ways ≡ dirty_of (get_or ways i None)
  dirty_in-at y [] i lt on once = absurd (omega arith)
  dirty_in-at y (way ∷ ways) zero lt on once = ap (λ b. cond b (dirty_of way) (dirty_in y ways)) on
  dirty_in-at y (way ∷ ways) (suc i) lt on once =
      let later = count-some (is_on y) ways i None (omega arith) on in
      ⊎_elim
      (λ e. absurd (omega (arith, later, once, count-cons (is_on y) way ways, worth-yes (is_on y) way e)))
      (λ e. skip y way ways e ∙ dirty_in-at y ways i (omega arith) on
      (omega (arith, once, count-cons (is_on y) way ways)))
      (cases_Bool (is_on y way))

  pub dirty_in-none : (y : ℕ) (ways : List (Option (Line M))) → count_by (is_on y) ways ≡ 0 → dirty_in y ways ≡ None
  dirty_in-none y [] none = refl
  dirty_in-none y (way ∷ ways) none =
      ⊎_elim
      (λ e. absurd (omega (arith, none, count-cons (is_on y) way ways, worth-yes (is_on y) way e)))
      (λ e. skip y way ways e ∙ dirty_in-none y ways (omega (arith, none, count-cons (is_on y) way ways)))
      (cases_Bool (is_on y way))

  -- what each line has
  dirty_of-has : (test : M → Bool) (way : Option (Line M)) → HasDirty test way →
      IfSome (dirty_of way) (λ dirty. test dirty ≡ true)
  dirty_of-has test None h = tt
  dirty_of-has test (Some line) h = h

  pub dirty_in-has : (test : M → Bool) (y : ℕ) (ways : List (Option (Line M))) →
      ((k : ℕ) → k < length ways → HasDirty test (get_or ways k None))
      → IfSome (dirty_in y ways) (λ dirty. test dirty ≡ true)
  dirty_in-has test y [] each = tt
  dirty_in-has test y (way ∷ ways) each =
      let P : Option M → Type 0 = λ o. IfSome o (λ dirty. test dirty ≡ true) in
      ⊎_elim
      (λ e. subst P (sym (ap (λ b. cond b (dirty_of way) (dirty_in y ways)) e))
      (dirty_of-has test way (each 0 (omega arith))))
      (λ e. subst P (sym (skip y way ways e)) (dirty_in-has test y ways (λ k lt. each (suc k) (omega arith))))
      (cases_Bool (is_on y way))

  some_dirty : (y : ℕ) (way : Option (Line M)) → is_on y way ≡ true → dirty_of way ≡ None → ⊥
  some_dirty y None on e = cc on
  some_dirty y (Some line) on e = cc e

  -- a block without a line is in no way
  pub unseen : (y : ℕ) (ways : List (Option (Line M))) → count_by (is_on y) ways ≤ 1 → dirty_in y ways ≡ None →
      count_by (is_on y) ways ≡ 0
  unseen y ways once none = count-none (is_on y) ways None (λ k lt.
      ⊎_elim (λ on. absurd (some_dirty y (get_or ways k None) on (sym (dirty_in-at y ways k lt on once) ∙ none)))
      (λ off. off) (cases_Bool (is_on y (get_or ways k None))))

  -- ---- a way that changes

  dirty_in-set : (y : ℕ) (ways : List (Option (Line M))) (i : ℕ) (new : Option (Line M)) → i < length ways →
      is_on y (get_or ways i None) ≡ false → is_on y new ≡ false
      → dirty_in y (slice_set ways i new) ≡ dirty_in y ways
  dirty_in-set y [] i new lt off off_new = absurd (omega arith)
  dirty_in-set y (way ∷ ways) zero new lt off off_new = skip y new ways off_new ∙ sym (skip y way ways off)
  dirty_in-set y (way ∷ ways) (suc i) new lt off off_new = ap (cond (is_on y way) (dirty_of way))
      (dirty_in-set y ways i new (omega arith) off off_new)

  -- the way has a line on no other block than this
  module _ (ways : List (Option (Line M))) (way block : ℕ) (inside : way < length ways)
      (apart : (y : ℕ) → block ≢ y → is_on y (get_or ways way None) ≡ false) where
    other_way : (new : Option (Line M)) (y : ℕ) → block ≢ y → is_on y new ≡ false →
        line_at (lines_of (slice_set ways way new)) y ≡ line_at (lines_of ways) y
    other_way new y ne off = line_at-ways y (slice_set ways way new)
        ∙ dirty_in-set y ways way new inside (apart y ne) off ∙ sym (line_at-ways y ways)

    pub lines_of-put : (dirty : M) → (let new : Option (Line M) = Some (record { block = block; dirty = dirty }) in
        count_by (is_on block) (slice_set ways way new) ≤ 1
        → lines_of (slice_set ways way new) ≡ with_line (lines_of ways) block dirty)
    lines_of-put dirty once = same_lines (lines_of after) (with_line (lines_of ways) block dirty) (rising after)
        (rising-with (lines_of ways) block dirty (rising ways)) at
      where
        new : Option (Line M)
        new = Some (record { block = block; dirty = dirty })

        after : List (Option (Line M))
        after = slice_set ways way new

        here : get_or after way None ≡ new
        here = get_or-set_same ways way new None inside

        long : way < length after
        long = omega (arith, length-set ways way new, inside)

        put_on : is_on block new ≡ true
        put_on = eq-eqb block block refl

        at : (y : ℕ) → line_at (lines_of after) y ≡ line_at (with_line (lines_of ways) block dirty) y
        at y = ⊎_elim
            (λ e. subst (λ k. line_at (lines_of after) k ≡ line_at (with_line (lines_of ways) block dirty) k) e
            (line_at-ways block after ∙ dirty_in-at block after way long
            (subst (λ w. is_on block w ≡ true) (sym here) put_on) once ∙ ap dirty_of here
            ∙ sym (line_put (lines_of ways) block dirty block
            ∙ ap (λ b. cond b (Some dirty) (line_at (lines_of ways) block)) (eq-eqb block block refl))))
            (λ ne. other_way new y ne (ne_eqb block y ne)
            ∙ sym (line_put (lines_of ways) block dirty y ∙ ap (λ b. cond b (Some dirty) (line_at (lines_of ways) y))
            (ne_eqb block y ne)))
            (cases_eq block y)

    pub lines_of-gone : count_by (is_on block) (slice_set ways way None) ≡ 0 →
        lines_of (slice_set ways way None) ≡ without_line (lines_of ways) block
    lines_of-gone none = same_lines (lines_of after) (without_line (lines_of ways) block) (rising after)
        (rising-without (lines_of ways) block (rising ways)) at
      where
        after : List (Option (Line M))
        after = slice_set ways way None

        at : (y : ℕ) → line_at (lines_of after) y ≡ line_at (without_line (lines_of ways) block) y
        at y = ⊎_elim
            (λ e. subst (λ k. line_at (lines_of after) k ≡ line_at (without_line (lines_of ways) block) k) e
            (line_at-ways block after ∙ dirty_in-none block after none
            ∙ sym (line_gone (lines_of ways) block block ∙ ap (λ b. cond b None (line_at (lines_of ways) block))
            (eq-eqb block block refl))))
            (λ ne. other_way None y ne refl
            ∙ sym (line_gone (lines_of ways) block y ∙ ap (λ b. cond b None (line_at (lines_of ways) y))
            (ne_eqb block y ne)))
            (cases_eq block y)

  -- ---- how many lines have a block that passes a test

  -- has the way a line whose block passes?
  abbrev pub passes : (ℕ → Bool) → Option (Line M) → Bool
  passes test None = false
  passes test (Some line) = test line.block

  pub passing-ways : (test : ℕ → Bool) (ways : List (Option (Line M))) → ((y : ℕ) → count_by (is_on y) ways ≤ 1) →
      passing test (lines_of ways) ≡ count_by (passes test) ways
  passing-ways test [] once = refl
  passing-ways test (None ∷ ways) once =
      passing-ways test ways (λ y. omega (arith, once y, count-cons (is_on y) None ways))
      ∙ omega (arith, count-cons (passes test) None ways)
  passing-ways test (Some line ∷ ways) once =
      let rest = passing-ways test ways (λ y. omega (arith, once y, count-cons (is_on y) (Some line) ways)) in
      let here = worth-yes (is_on line.block) (Some line) (eq-eqb line.block line.block refl) in
      let none : count_by (is_on line.block) ways ≡ 0 = omega
      (arith, once line.block, count-cons (is_on line.block) (Some line) ways, here) in
      let gained = passing-with test (lines_of ways) line.block line.dirty
      (line_at-ways line.block ways ∙ dirty_in-none line.block ways none) in
      omega (arith, rest, gained, count-cons (passes test) (Some line) ways)

  -- ---- free ways alone

  abbrev pub all_free : ℕ → List (Option (Line M))
  all_free n = replicate n None

  pub lines_of-free : (n : ℕ) → lines_of (all_free n) ≡ []
  lines_of-free zero = refl
  lines_of-free (suc n) = lines_of-free n

pub length-free : (M : Type 0) (n : ℕ) → length (all_free {M = M} n) ≡ n
length-free M n = length-replicate n None

pub free_at : (M : Type 0) (n k : ℕ) → k < n → get_or (all_free {M = M} n) k None ≡ None
free_at M n k lt = get_or-replicate n k None None lt
