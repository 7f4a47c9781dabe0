-- Cells and the places of second-level blocks: each cell is within the list, and those of two blocks are apart.
use Rattle.std.proofs.Common.{◌≡◌, ℕ, ◌+◌, ◌*◌, ◌/◌, ◌%◌, ◌<◌, ◌≤◌, Option, Some, None, length, refl, sym, ap, subst}
use Rattle.std.proofs.Common.{◌∙◌, arith, zero, suc, ◌^◌}
use mathlib.Core.Path.{ap₂}
use Rattle.std.proofs.Math.Nat.{mul-le-mul_left}
use Rattle.std.proofs.lemmas.Nat.{div-mul-add, mod-mul-add, div-add-mod'}
use Rattle.bank_cells.specs.Cells.{CellsView, IsWhole, IsCell, IsPlace, cell_in, cell_of, place_of}

-- the place that gives a cell
pub place_found : (factor part : ℕ) (place : Option ℕ) (cell : ℕ) → cell_in factor part place ≡ Some cell →
    (at : ℕ) × ((place ≡ Some at) × (at * factor + part ≡ cell))
place_found factor part None cell is = absurd (cc)
place_found factor part (Some at) cell is = (at, (refl, cc))

-- the part of a place below another is below all parts of that
pub below_product : (at n factor part : ℕ) → at < n → part < factor → at * factor + part < n * factor
below_product at n factor part below inside =
    let more : factor * (at + 1) ≤ factor * n = mul-le-mul_left factor (omega arith) in omega (arith, more)

-- a cell with its place and its part of it
same_place : (a b factor part other : ℕ) → part < factor → other < factor → a * factor + part ≡ b * factor + other →
    a ≡ b
same_place a b factor part other inside outside same =
    sym (div-mul-add a factor part inside) ∙ ap (λ n. n / factor) same ∙ div-mul-add b factor other outside

same_part : (a b factor part other : ℕ) → a ≡ b → a * factor + part ≡ b * factor + other → part ≡ other
same_part a b factor part other at same =
    let product : a * factor ≡ b * factor = ap (λ n. n * factor) at in omega (arith, product, same)

module _ (v : CellsView) (whole : IsWhole v) where
  pub part_below : (block : ℕ) → block % v.factor < v.factor
  part_below block = let some : 0 < v.factor = whole.some in omega arith

  pub within_cells : (block cell : ℕ) → cell_of v block ≡ Some cell → cell < length v.cells
  within_cells block cell is =
      let found = place_found v.factor (block % v.factor) (place_of v (block / v.factor)) cell is in
      let below = below_product found.0 (length v.seconds) v.factor (block % v.factor)
      (whole.within (block / v.factor) found.0 found.1.0) (part_below block) in
      omega (arith, below, found.1.1, whole.even)

  -- two blocks with one cell are one
  pub cell_apart : (block other cell : ℕ) → cell_of v block ≡ Some cell → cell_of v other ≡ Some cell → block ≡ other
  cell_apart block other cell is also =
      let f = v.factor in
      let found = place_found f (block % f) (place_of v (block / f)) cell is in
      let beside = place_found f (other % f) (place_of v (other / f)) cell also in
      let same : found.0 * f + block % f ≡ beside.0 * f + other % f = found.1.1 ∙ sym beside.1.1 in
      let at : found.0 ≡ beside.0 = same_place found.0 beside.0 f (block % f) (other % f) (part_below block)
      (part_below other) same in
      let part : block % f ≡ other % f = same_part found.0 beside.0 f (block % f) (other % f) at same in
      let second : block / f ≡ other / f = whole.apart (block / f) (other / f) found.0 found.1.0
      (beside.1.0 ∙ ap Some (sym at)) in
      sym (div-add-mod' block f) ∙ ap (λ n. n * f + block % f) second ∙ ap (λ n. other / f * f + n) part
      ∙ div-add-mod' other f

module _ (v now : CellsView) (seen : v ≡ now) (whole : IsWhole v) where
  pub cell_within : (cell : ℕ) → IsCell now cell → cell < length v.cells
  cell_within cell is = within_cells v whole is.block cell
      (subst (λ (w : CellsView). cell_of w is.block ≡ Some cell) (sym seen) is.found)

  pub place_within : (place : ℕ) → IsPlace now place → place < length v.seconds
  place_within place is = whole.within is.second place
      (subst (λ (w : CellsView). place_of w is.second ≡ Some place) (sym seen) is.found)

  -- the cells of a place follow one another
  pub part_cell : (place n : ℕ) → n ≡ place * v.factor → (second part : ℕ) → place_of now second ≡ Some place →
      part < now.factor → cell_of now (second * now.factor + part) ≡ Some (n + part)
  part_cell place n is second part = subst
      (λ (w : CellsView). place_of w second ≡ Some place → part < w.factor →
      cell_of w (second * w.factor + part) ≡ Some (n + part)) seen
      (λ found inside.
      let f = v.factor in
      ap₂ (λ a b. cell_in f a (place_of v b)) (mod-mul-add second f part inside) (div-mul-add second f part inside)
      ∙ ap (cell_in f part) found ∙ ap (λ k. Some (k + part)) (sym is))

  -- the place of the second-level block of a cell
  pub place_of_cell : (cell : ℕ) (block : ℕ) → cell_of now block ≡ Some cell →
      place_of now (block / now.factor) ≡ Some (cell / v.factor)
  place_of_cell cell block = subst
      (λ (w : CellsView). cell_of w block ≡ Some cell → place_of w (block / w.factor) ≡ Some (cell / v.factor)) seen
      (λ is.
      let f = v.factor in
      let found = place_found f (block % f) (place_of v (block / f)) cell is in
      found.1.0 ∙ ap Some (sym (div-mul-add found.0 f (block % f) (part_below v whole block))
      ∙ ap (λ n. n / f) found.1.1))

  pub place_below : (place : ℕ) → IsPlace now place → place * v.factor + v.factor ≤ length v.cells
  place_below place is =
      let more : v.factor * (place + 1) ≤ v.factor * length v.seconds =
      mul-le-mul_left v.factor (let inside = place_within place is in omega arith) in
      omega (arith, more, whole.even)

-- one bit moved by so few places
pub one_shifted : (shift : ℕ) → shift ≤ 2 → 1 * 2 ^ shift % 2 ^ 32 ≡ 2 ^ shift
one_shifted zero small = refl
one_shifted (suc zero) small = refl
one_shifted (suc (suc zero)) small = refl
one_shifted (suc (suc (suc shift))) small = absurd (omega arith)

pub one_shifted_wide : (shift : ℕ) → shift ≤ 2 → 1 * 2 ^ shift % 2 ^ 64 ≡ 2 ^ shift
one_shifted_wide zero small = refl
one_shifted_wide (suc zero) small = refl
one_shifted_wide (suc (suc zero)) small = refl
one_shifted_wide (suc (suc (suc shift))) small = absurd (omega arith)

-- the blocks of a second-level block without a place have no cell
pub no_cell : (v : CellsView) (second part : ℕ) → part < v.factor → place_of v second ≡ None →
    cell_of v (second * v.factor + part) ≡ None
no_cell v second part inside none =
    ap₂ (λ a b. cell_in v.factor a (place_of v b)) (mod-mul-add second v.factor part inside)
    (div-mul-add second v.factor part inside)
    ∙ ap (cell_in v.factor part) none
