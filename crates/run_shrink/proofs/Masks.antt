-- Masks that `==` finds alike.
use Rattle.std.proofs.Common.{◌≡◌, ℕ, Bool, ◌&&◌, List, [], ◌∷◌, true, false, nat_eq, refl, ap, sym, ◌∙◌, true≢false}
use Rattle.std.specs.Cmp.Lexicographic.{pointwise}
use Rattle.std.proofs.lemmas.Map.Views.{exact_unsigned_eq}
use Rattle.lf_rules.specs.declared.mask.Mask.{Mask}

same_mask : (a b : Mask) → nat_eq a.0 b.0 ≡ true → a ≡ b
same_mask a b h = ap (λ (n : ℕ). record { 0 = n }) (exact_unsigned_eq a.0 b.0 h)

both : (s t : Bool) → (s && t) ≡ true → (s ≡ true) × (t ≡ true)
both true t h = (refl, h)
both false t h = absurd (true≢false (sym h))

pub same_masks : (xs ys : List Mask) → pointwise (λ (a b : Mask). nat_eq a.0 b.0) xs ys ≡ true → xs ≡ ys
same_masks [] [] h = refl
same_masks [] (y ∷ ys) h = absurd (true≢false (sym h))
same_masks (x ∷ xs) [] h = absurd (true≢false (sym h))
same_masks (x ∷ xs) (y ∷ ys) h =
    let parts = both (nat_eq x.0 y.0) (pointwise (λ (a b : Mask). nat_eq a.0 b.0) xs ys) h in
    ap (λ (z : Mask). z ∷ xs) (same_mask x y parts.0) ∙ ap (λ (zs : List Mask). y ∷ zs) (same_masks xs ys parts.1)
