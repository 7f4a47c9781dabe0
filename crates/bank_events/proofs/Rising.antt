-- How many lines a set has after a line comes, leaves or is marked, where lines stand by rising blocks.
use Rattle.std.proofs.Common.{◌≡◌, ℕ, Bool, true, false, cond, ◌+◌, ◌-◌, ◌==◌, List, Option, Some, None, is_some}
use Rattle.std.proofs.Common.{refl, sym, ap, ◌∙◌, eqb-true, eq-eqb, arith}
use Rattle.lf_rules.specs.Lines.{line_at, has_line, with_line, without_line, lines_of_set}
use Rattle.lf_rules.specs.State.{update}
use Rattle.lf_levels.proofs.Entries.{line_put, line_gone, AreRising, rising-with, rising-without, same_lines}
use Rattle.lf_levels.proofs.Entries.{passing, passing-with}

-- the value of a line that is there
pub some_line : {M : Type 0} (o : Option M) → is_some o ≡ true → (m : M) × (o ≡ Some m)
some_line None e = absurd (cc e)
some_line (Some m) e = (m, refl)

module _ {M : Type 0} (lines : List (ℕ × M)) (x : ℕ) where
  none_left : line_at (without_line lines x) x ≡ None
  none_left = line_gone lines x x ∙ ap (λ b. cond b None (line_at lines x)) (eq-eqb x x refl)

  -- a line that leaves and comes back
  there_again : (m : M) → AreRising lines → line_at lines x ≡ Some m →
      with_line (without_line lines x) x m ≡ lines
  there_again m h there = same_lines (with_line (without_line lines x) x m) lines
      (rising-with (without_line lines x) x m (rising-without lines x h)) h
      (λ y. line_put (without_line lines x) x m y ∙ ap (cond (x == y) (Some m)) (line_gone lines x y)
      ∙ at y (x == y) refl)
    where
      at : (y : ℕ) (b : Bool) → (x == y) ≡ b →
          cond b (Some m) (cond b None (line_at lines y)) ≡ line_at lines y
      at y true e = sym (ap (line_at lines) (sym (eqb-true x y e)) ∙ there)
      at y false e = refl

  -- one line fewer
  pub passing-without : (test : ℕ → Bool) → AreRising lines → has_line lines x ≡ true
      → passing test lines ≡ cond (test x) 1 0 + passing test (without_line lines x)
  passing-without test h there =
      let line = some_line (line_at lines x) there in
      sym (ap (passing test) (there_again line.0 h line.1))
      ∙ passing-with test (without_line lines x) x line.0 none_left

module _ {M : Type 0} (lines : List (ℕ × M)) (x : ℕ) (m : M) where
  marked_there : has_line (with_line lines x m) x ≡ true
  marked_there = ap is_some (line_put lines x m x)
      ∙ ap (λ b. is_some (cond b (Some m) (line_at lines x))) (eq-eqb x x refl)

  -- a line that is marked and leaves
  without_marked : AreRising lines → without_line (with_line lines x m) x ≡ without_line lines x
  without_marked h = same_lines (without_line (with_line lines x m) x) (without_line lines x)
      (rising-without (with_line lines x m) x (rising-with lines x m h)) (rising-without lines x h)
      (λ y. line_gone (with_line lines x m) x y
      ∙ ap (cond (x == y) None) (line_put lines x m y) ∙ twice (x == y) (line_at lines y)
      ∙ sym (line_gone lines x y))
    where
      twice : (b : Bool) (o : Option M) → cond b None (cond b (Some m) o) ≡ cond b None o
      twice true o = refl
      twice false o = refl

  -- a line that is there already: no count changes
  pub passing-marked : (test : ℕ → Bool) → AreRising lines → has_line lines x ≡ true
      → passing test (with_line lines x m) ≡ passing test lines
  passing-marked test h there =
      passing-without (with_line lines x m) x test (rising-with lines x m h) marked_there
      ∙ ap (λ (ls : List (ℕ × M)). cond (test x) 1 0 + passing test ls) (without_marked h)
      ∙ sym (passing-without lines x test h there)

-- Counts of the lines of sets, by the numbers of the sets.
module _ {M : Type 0} (set : ℕ → ℕ) (counts : ℕ → ℕ) (lines : List (ℕ × M))
    (are : (y : ℕ) → counts (set y) ≡ lines_of_set set lines y) (x : ℕ) where
  -- one line more, on a block that had none
  pub counted-with : (m : M) → line_at lines x ≡ None → (y : ℕ)
      → update counts (set x) (counts (set x) + 1) (set y) ≡ lines_of_set set (with_line lines x m) y
  counted-with m absent y = go (set x == set y) refl
    where
      go : (b : Bool) → (set x == set y) ≡ b
          → cond b (counts (set x) + 1) (counts (set y)) ≡ lines_of_set set (with_line lines x m) y
      go true e =
          let one = passing-with (λ n. set n == set y) lines x m absent
          ∙ ap (λ b. cond {A = ℕ} b 1 0 + lines_of_set set lines y) e in
          omega (arith, ap counts (eqb-true (set x) (set y) e), are y, one)
      go false e =
          let none = passing-with (λ n. set n == set y) lines x m absent
          ∙ ap (λ b. cond {A = ℕ} b 1 0 + lines_of_set set lines y) e in
          omega (arith, are y, none)

  -- one line fewer
  pub counted-without : AreRising lines → has_line lines x ≡ true → (y : ℕ)
      → update counts (set x) (counts (set x) - 1) (set y) ≡ lines_of_set set (without_line lines x) y
  counted-without h there y = go (set x == set y) refl
    where
      go : (b : Bool) → (set x == set y) ≡ b
          → cond b (counts (set x) - 1) (counts (set y)) ≡ lines_of_set set (without_line lines x) y
      go true e =
          let one = passing-without lines x (λ n. set n == set y) h there
          ∙ ap (λ b. cond {A = ℕ} b 1 0 + lines_of_set set (without_line lines x) y) e in
          omega (arith, ap counts (eqb-true (set x) (set y) e), are y, one)
      go false e =
          let none = passing-without lines x (λ n. set n == set y) h there
          ∙ ap (λ b. cond {A = ℕ} b 1 0 + lines_of_set set (without_line lines x) y) e in
          omega (arith, are y, none)

  -- a line that is there already
  pub counted-marked : (m : M) → AreRising lines → has_line lines x ≡ true → (y : ℕ)
      → counts (set y) ≡ lines_of_set set (with_line lines x m) y
  counted-marked m h there y = are y ∙ sym (passing-marked lines x m (λ n. set n == set y) h there)
