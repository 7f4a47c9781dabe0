-- The masks of second-level blocks after a fill of level two.
use Rattle.std.proofs.Common.{◌≡◌, ℕ, zero, suc, ◌+◌, ◌<◌, ◌==◌, false, cond, List, ◌∷◌, map, refl, ap, ◌∙◌, arith}
use Rattle.std.proofs.Common.{eq-eqb}
use mathlib.Core.Path.{ap₂}
use Rattle.std.specs.Prelude.{replicate}
use Rattle.std.specs.List.{range_with_len}
use Rattle.lf_rules.specs.declared.mask.Mask.{Mask}
use Rattle.lf_rules.specs.declared.shape.Shape.{Shape}
use Rattle.lf_rules.specs.Address.{Masks, clean_mask, second_of, sub_block}
use Rattle.lf_rules.specs.Lines.{clean_masks}
use Rattle.lf_rules.proofs.Wide.{second_of_sub}
use Rattle.lf_levels.proofs.Entries.{flip}
use Rattle.bank_events.specs.Known.{Known}
use Rattle.bank_events.specs.KnownAfter.{dirty_cleared}
use Rattle.bank_events.specs.KnownRules.{dirty_at}
use Rattle.bank_events.specs.Agrees.{masks_of}

-- ---- lists over numbers

map_same : {X : Type 0} (f g : ℕ → X) (a n : ℕ) → ((i : ℕ) → i < a + n → f i ≡ g i) →
    map f (range_with_len a n) ≡ map g (range_with_len a n)
map_same f g a zero same = refl
map_same f g a (suc n) same = ap₂ (λ x xs. x ∷ xs) (same a (omega arith))
    (map_same f g (a + 1) n (λ i lt. same i (omega arith)))

map_constant : {X : Type 0} (x : X) (a n : ℕ) → map (λ _. x) (range_with_len a n) ≡ replicate n x
map_constant x a zero = refl
map_constant x a (suc n) = ap (λ xs. x ∷ xs) (map_constant x (a + 1) n)

-- ---- masks

abbrev one_mask : ℕ → Mask
one_mask mask = record { 0 = mask }

abbrev all_masks : List Mask → Masks
all_masks items = record { items = items }

module _ (shape : Shape) (now : Known) (s : ℕ) where
  -- they are the same where each sub-block's mask is
  pub masks_same : (k : Known) → ((place : ℕ) → place < shape.factor → now.dirty (sub_block shape s place)
      ≡ k.dirty (sub_block shape s place)) → masks_of shape now s ≡ masks_of shape k s
  masks_same k same = ap all_masks (map_same (dirty_at shape now s) (dirty_at shape k s) 0 shape.factor
      (λ place lt. ap one_mask (same place (omega arith))))

  -- and clean where no sub-block is dirty
  pub masks_clean : ((place : ℕ) → place < shape.factor → now.dirty (sub_block shape s place) ≡ 0) →
      masks_of shape now s ≡ clean_masks shape.factor
  masks_clean clean = ap all_masks (map_same (dirty_at shape now s) (λ _. clean_mask) 0 shape.factor
      (λ place lt. ap one_mask (clean place (omega arith))) ∙ map_constant clean_mask 0 shape.factor)

module _ (shape : Shape) (dirty : ℕ → ℕ) (second : ℕ) where
  pub cleared_here : (place : ℕ) → place < shape.factor →
      dirty_cleared shape dirty second (sub_block shape second place) ≡ 0
  cleared_here place lt = ap (λ b. cond b 0 (dirty (sub_block shape second place)))
      (eq-eqb (second_of shape (sub_block shape second place)) second (second_of_sub shape second place lt))

  -- other second-level blocks are as before
  pub cleared_other : (s place : ℕ) → (second == s) ≡ false → place < shape.factor →
      dirty_cleared shape dirty second (sub_block shape s place) ≡ dirty (sub_block shape s place)
  cleared_other s place apart lt = ap (λ b. cond b 0 (dirty (sub_block shape s place)))
      (ap (λ n. n == second) (second_of_sub shape s place lt) ∙ flip s second ∙ apart)
