-- What the cells say of a block, read one by one.
use Rattle.std.proofs.Common.{◌≡◌, ℕ, zero, suc, List, [], ◌∷◌, ◌++◌, map, Option, None, refl, sym, ap, ◌∙◌, ◌+◌, arith}
use mathlib.Core.Path.{fun_ext}
use Rattle.std.specs.List.{range_with_len}
use Rattle.std.proofs.lemmas.List.FromFn.{map-range_with_len_more}
use Rattle.std.specs.Prelude.{replicate, slice_index}
use Rattle.lf_rules.specs.declared.mask.Mask.{Mask}
use Rattle.lf_rules.specs.declared.shape.Shape.{Shape}
use Rattle.lf_rules.specs.Address.{sub_block}
use Rattle.bank_cells.specs.Cells.{CellsView, cell_at, cell_of, dirty_at, memory_at}
use Rattle.bank_events.proofs.Opening.{no_counts}
use Rattle.lf_replay.specs.Seen.{mask_in}

none_there : (i : ℕ) → 0 ≡ slice_index [] i
none_there zero = refl
none_there (suc i) = refl

-- the bytes of a block that has no cell
pub no_bytes : (cells : CellsView) (block : ℕ) → cell_of cells block ≡ None →
    slice_index (replicate 64 0) ≡ memory_at cells block
no_bytes cells block none = fun_ext (λ i. no_counts 64 i ∙ none_there i)
    ∙ ap (λ (o : Option ℕ). slice_index (cell_at cells.cells o).bytes) (sym none)

-- one more of the values of a range
pub more_of : {X : Type 0} (f : ℕ → X) {xs ys : List X} {y : X} (i : ℕ) → ys ≡ xs ++ y ∷ [] →
    xs ≡ map f (range_with_len 0 i) → y ≡ f i → ys ≡ map f (range_with_len 0 (i + 1))
more_of {X = X} f {xs} {ys} {y} i pushed read is = pushed ∙ ap (λ (zs : List X). zs ++ y ∷ []) read
    ∙ ap (λ z. map f (range_with_len 0 i) ++ z ∷ []) is ∙ sym (map-range_with_len_more f 0 i i (omega arith))

-- one more dirty mask
pub more_masks : (shape : Shape) (cells : CellsView) (second place block dirty : ℕ) {xs ys : List Mask} →
    ys ≡ xs ++ record { 0 = dirty } ∷ [] → xs ≡ map (mask_in shape cells second) (range_with_len 0 place)
    → dirty ≡ dirty_at cells block → block ≡ sub_block shape second place
    → ys ≡ map (mask_in shape cells second) (range_with_len 0 (place + 1))
more_masks shape cells second place block dirty pushed read is here =
    more_of (mask_in shape cells second) place pushed read
    (ap (λ n. let mask : Mask = record { 0 = n } in mask) (is ∙ ap (dirty_at cells) here))
