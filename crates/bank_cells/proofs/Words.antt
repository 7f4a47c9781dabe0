-- The words of blocks where one cell is written.
use Rattle.std.proofs.Common.{◌≡◌, ℕ, ◌==◌, ◌<◌, Bool, true, false, cond, Option, Some, None, length, get_or, set}
use Rattle.std.proofs.Common.{refl, sym, ap, subst, ◌∙◌, ⊎_elim, eqb-true, eq-eqb, get_or-set_same, get_or-set_other}
use mathlib.Core.Path.{fun_ext}
use Rattle.std.proofs.lemmas.Bool.{cases_eq}
use Rattle.std.proofs.lemmas.List.{get_or_default}
use Rattle.lf_rules.specs.State.{update}
use Rattle.bank_cells.specs.declared.cell.Cell.{Cell}
use Rattle.bank_cells.specs.declared.known.Second.{Second}
use Rattle.bank_cells.specs.declared.known.Second.TheVariants as level2
use Rattle.bank_cells.specs.Cells.{CellsView, IsWhole, IsCell, cell_of, cell_at, place_of, nothing}
use Rattle.bank_cells.specs.Cells.{second_in, second_at}
use Rattle.bank_cells.proofs.Placed.{cell_within, cell_apart}

abbrev pub word : {X : Type 0} → (Cell → X) → CellsView → ℕ → X
word p v block = p (cell_at v.cells (cell_of v block))

abbrev pub with_cell : CellsView → ℕ → Cell → CellsView
with_cell v at c = record v { cells = set v.cells at c }

module _ {X : Type 0} (p : Cell → X) (v now : CellsView) (seen : v ≡ now) (whole : IsWhole v) (at : ℕ)
    (there : IsCell now at) where
  within : at < length v.cells
  within = cell_within v now seen whole at there

  read_there : (old : Cell) → old ≡ get_or v.cells at old → p old ≡ p (get_or v.cells at nothing)
  read_there old is = ap p (is ∙ get_or_default v.cells at old nothing within)

  -- what the cell of a block has
  pub word_read : (old : Cell) → old ≡ get_or v.cells at old → (block : ℕ) → cell_of now block ≡ Some at →
      p old ≡ word p now block
  word_read old is block = subst (λ (w : CellsView). cell_of w block ≡ Some at → p old ≡ word p w block) seen
      (λ found. read_there old is ∙ ap (λ (o : Option ℕ). p (cell_at v.cells o)) (sym found))

  -- a word that the new cell has as the old one had it
  pub word_kept : (old c : Cell) → old ≡ get_or v.cells at old → p c ≡ p old → word p (with_cell v at c) ≡ word p now
  word_kept old c is same = fun_ext (λ block. go (cell_of v block)) ∙ ap (word p) seen
    where
      go : (o : Option ℕ) → p (cell_at (set v.cells at c) o) ≡ p (cell_at v.cells o)
      go None = refl
      go (Some k) = ⊎_elim
          (λ e. ap (λ n. p (get_or (set v.cells at c) n nothing)) e
          ∙ ap p (get_or-set_same v.cells at c nothing within) ∙ same ∙ read_there old is
          ∙ ap (λ n. p (get_or v.cells n nothing)) (sym e))
          (λ apart. ap p (get_or-set_other v.cells at k c nothing apart)) (cases_eq k at)

  -- the word of the block whose cell is written
  pub word_written : (c : Cell) (x : X) → p c ≡ x → (block : ℕ) → cell_of now block ≡ Some at →
      word p (with_cell v at c) ≡ update (word p now) block x
  word_written c x has block = subst
      (λ (w : CellsView). cell_of w block ≡ Some at → word p (with_cell v at c) ≡ update (word p w) block x) seen
      (λ is. fun_ext (λ q. go is q (block == q) refl))
    where
      other : (o : Option ℕ) → (o ≡ Some at → ⊥) → p (cell_at (set v.cells at c) o) ≡ p (cell_at v.cells o)
      other None apart = refl
      other (Some k) apart =
          ap p (get_or-set_other v.cells at k c nothing (λ e. apart (ap Some e)))

      go : cell_of v block ≡ Some at → (q : ℕ) (b : Bool) → (block == q) ≡ b
          → p (cell_at (set v.cells at c) (cell_of v q)) ≡ cond b x (p (cell_at v.cells (cell_of v q)))
      go is q true e =
          ap (λ k. p (cell_at (set v.cells at c) (cell_of v k))) (sym (eqb-true block q e))
          ∙ ap (λ (o : Option ℕ). p (cell_at (set v.cells at c) o)) is
          ∙ ap p (get_or-set_same v.cells at c nothing within) ∙ has
      go is q false e = other (cell_of v q) (λ also.
          let same = eq-eqb block q (cell_apart v whole block q at is also) in absurd (cc))

-- ---- what level two has

module _ (v now : CellsView) (seen : v ≡ now) (whole : IsWhole v) where
  -- what level two has of the block of a place
  pub second_read : (place : ℕ) → place < length v.seconds → (old : Second) → old ≡ get_or v.seconds place old →
      (second : ℕ) → place_of now second ≡ Some place → old ≡ second_at now second
  second_read place inside old is second =
      subst (λ (w : CellsView). place_of w second ≡ Some place → old ≡ second_at w second) seen
      (λ found. is ∙ get_or_default v.seconds place old level2.Absent inside
      ∙ ap (second_in v.seconds) (sym found))

  -- the second-level block of the place that is written
  pub second_written : (place : ℕ) (new : Second) (second : ℕ) → place_of now second ≡ Some place →
      second_at (record v { seconds = set v.seconds place new }) ≡ update (second_at now) second new
  second_written place new second = subst
      (λ (w : CellsView). place_of w second ≡ Some place →
      second_at (record v { seconds = set v.seconds place new }) ≡ update (second_at w) second new) seen
      (λ is. fun_ext (λ q. go is q (second == q) refl))
    where
      other : (o : Option ℕ) → (o ≡ Some place → ⊥) →
          second_in (set v.seconds place new) o ≡ second_in v.seconds o
      other None apart = refl
      other (Some k) apart =
          get_or-set_other v.seconds place k new level2.Absent (λ e. apart (ap Some e))

      go : place_of v second ≡ Some place → (q : ℕ) (b : Bool) → (second == q) ≡ b
          → second_in (set v.seconds place new) (place_of v q) ≡ cond b new (second_in v.seconds (place_of v q))
      go is q true e =
          ap (λ k. second_in (set v.seconds place new) (place_of v k)) (sym (eqb-true second q e))
          ∙ ap (second_in (set v.seconds place new)) is
          ∙ get_or-set_same v.seconds place new level2.Absent (whole.within second place is)
      go is q false e = other (place_of v q) (λ also.
          let same = eq-eqb second q (whole.apart second q place is also) in absurd (cc))
