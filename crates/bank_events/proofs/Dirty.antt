-- The dirty masks of a second-level block after one of a sub-block's has changed.
use Rattle.std.proofs.Common.{◌≡◌, ℕ, zero, suc, ◌+◌, ◌<◌, ◌≤◌, false, cond, ◌==◌, List, ◌∷◌, map}
use Rattle.std.proofs.Common.{refl, sym, ap, ap₂, ◌∙◌, eq-eqb, ne_eqb, arith}
use Rattle.std.specs.Prelude.{bit_or, slice_set}
use Rattle.std.specs.List.{range_with_len}
use Rattle.std.proofs.lemmas.Bool.{both_ways}
use Rattle.std.proofs.lemmas.List.FromFn.{get_or-map-range_with_len}
use Rattle.lf_rules.specs.declared.mask.Mask.{Mask}
use Rattle.lf_rules.specs.declared.shape.Shape.{Shape}
use Rattle.lf_rules.specs.Address.{second_of, place_of, sub_block, mask_at, clean_mask}
use Rattle.lf_rules.specs.Lines.{marked}
use Rattle.lf_rules.specs.State.{update}
use Rattle.lf_rules.proofs.Wide.{second_of_sub, sub_of_block}
use Rattle.bank_events.specs.Known.{Known}
use Rattle.bank_events.specs.KnownRules.{dirty_at}
use Rattle.bank_events.specs.Agrees.{masks_of}
use Rattle.bank_events.proofs.Updates.{update_same}

module _ {M : Type 0} (g h : ℕ → M) where
  -- equal values in order
  map-same : (a n : ℕ) → ((p : ℕ) → a ≤ p → p < a + n → h p ≡ g p) →
      map g (range_with_len a n) ≡ map h (range_with_len a n)
  map-same a zero same = refl
  map-same a (suc n) same = ap₂ (λ (x : M) (xs : List M). x ∷ xs) (sym (same a (omega arith) (omega arith)))
      (map-same (a + 1) n (λ p low high. same p (omega arith) (omega arith)))

  -- values in order, of which that at one place has changed
  map-set : (v : M) (a n i : ℕ) → (i < n → h (a + i) ≡ v)
      → ((p : ℕ) → a ≤ p → p < a + n → (p ≡ a + i → ⊥) → h p ≡ g p)
      → slice_set (map g (range_with_len a n)) i v ≡ map h (range_with_len a n)
  map-set v a zero i own others = refl
  map-set v a (suc n) zero own others = ap₂ (λ (x : M) (xs : List M). x ∷ xs)
      (sym (ap h (omega arith) ∙ own (omega arith)))
      (map-same (a + 1) n (λ p low high. others p (omega arith) (omega arith) (λ e. absurd (omega arith))))
  map-set v a (suc n) (suc i) own others = ap₂ (λ (x : M) (xs : List M). x ∷ xs)
      (sym (others a (omega arith) (omega arith) (λ e. absurd (omega arith))))
      (map-set v (a + 1) n i (λ lt. ap h (omega arith) ∙ own (omega arith))
      (λ p low high apart. others p (omega arith) (omega arith) (λ e. apart (omega arith))))

-- What is known before and after the mask of a block has changed.
module _ (shape : Shape) (k new : Known) (x mask : ℕ) (is : new.dirty ≡ update k.dirty x mask) where
  abbrev one_mask : ℕ → Mask
  one_mask dirty = record { 0 = dirty }

  -- a sub-block that is another block
  at_other : (second place : ℕ) → (x == sub_block shape second place) ≡ false
      → dirty_at shape new second place ≡ dirty_at shape k second place
  at_other second place apart = ap (λ (d : ℕ → ℕ). record { 0 = d (sub_block shape second place) }) is
      ∙ ap (λ b. record { 0 = cond b mask (k.dirty (sub_block shape second place)) }) apart

  -- another second-level block keeps its masks
  pub masks-other : (second : ℕ) → (second_of shape x == second) ≡ false → masks_of shape k second
      ≡ masks_of shape new second
  masks-other second apart = ap (λ ms. record { items = ms })
      (map-same (dirty_at shape k second) (dirty_at shape new second) 0 shape.factor
      (λ place low high. at_other second place (not_same place (omega arith))))
    where
      not_same : (place : ℕ) → place < shape.factor → (x == sub_block shape second place) ≡ false
      not_same place lt = ne_eqb x (sub_block shape second place)
          (λ same. both_ways (second_of shape x == second) apart
          (eq-eqb (second_of shape x) second (ap (second_of shape) same ∙ second_of_sub shape second place lt)))

  -- the block's own gains bytes in one mask
  pub masks-own : (more : ℕ) → mask ≡ bit_or (k.dirty x) more
      → marked (masks_of shape k (second_of shape x)) (place_of shape x) more ≡ masks_of shape new (second_of shape x)
  masks-own more joined = ap (λ ms. record { items = ms })
      (map-set (dirty_at shape k (second_of shape x)) (dirty_at shape new (second_of shape x))
      (one_mask (bit_or (mask_at (masks_of shape k (second_of shape x)) (place_of shape x)) more)) 0 shape.factor
      (place_of shape x) own others)
    where
      here : sub_block shape (second_of shape x) (0 + place_of shape x) ≡ x
      here = ap (sub_block shape (second_of shape x)) (omega arith) ∙ sub_of_block shape x

      was : place_of shape x < shape.factor → mask_at (masks_of shape k (second_of shape x)) (place_of shape x)
          ≡ k.dirty x
      was lt = ap (λ (m : Mask). m.0) (get_or-map-range_with_len (dirty_at shape k (second_of shape x)) 0 shape.factor
          (place_of shape x) (place_of shape x) clean_mask lt (omega arith))
          ∙ ap k.dirty (sub_of_block shape x)

      own : place_of shape x < shape.factor → dirty_at shape new (second_of shape x) (0 + place_of shape x)
          ≡ one_mask (bit_or (mask_at (masks_of shape k (second_of shape x)) (place_of shape x)) more)
      own lt = ap one_mask (ap new.dirty here ∙ ap (λ (d : ℕ → ℕ). d x) is ∙ update_same k.dirty x mask ∙ joined
          ∙ ap (λ d. bit_or d more) (sym (was lt)))

      others : (p : ℕ) → 0 ≤ p → p < 0 + shape.factor → (p ≡ 0 + place_of shape x → ⊥)
          → dirty_at shape new (second_of shape x) p ≡ dirty_at shape k (second_of shape x) p
      others p low high apart = at_other (second_of shape x) p (ne_eqb x (sub_block shape (second_of shape x) p)
          (λ same. apart (omega (arith, same, sub_of_block shape x))))
