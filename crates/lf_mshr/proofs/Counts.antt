-- How many elements of a list pass a test, as the list changes.
use Rattle.std.proofs.Common.{◌≡◌, ℕ, ◌+◌, ◌≤◌, Bool, true, false, cond, ◌||◌, ◌&&◌, List, [], ◌∷◌, ◌++◌, refl, ap}
use Rattle.std.proofs.Common.{◌∙◌, arith}
use Rattle.std.specs.Prelude.{count_by, filter}
use Rattle.std.specs.List.{list_any}
use Rattle.std.proofs.lemmas.Bool.{or_parts}
use Rattle.std.proofs.lemmas.List.Sums.{sum_by-cons, sum_by_push}

module _ {A : Type 0} (p : A → Bool) where
  pub count_cons : (x : A) (xs : List A) → count_by p (x ∷ xs) ≡ cond (p x) 1 0 + count_by p xs
  count_cons x xs = sum_by-cons (λ y. cond (p y) 1 0) x xs

  pub count_push : (xs : List A) (x : A) → count_by p (xs ++ x ∷ []) ≡ count_by p xs + cond (p x) 1 0
  count_push xs x = sum_by_push (λ y. cond (p y) 1 0) xs x

  pub count_push_yes : (xs : List A) (x : A) → p x ≡ true → count_by p (xs ++ x ∷ []) ≡ count_by p xs + 1
  count_push_yes xs x e = count_push xs x ∙ ap (λ b. count_by p xs + cond {A = ℕ} b 1 0) e

  pub count_push_no : (xs : List A) (x : A) → p x ≡ false → count_by p (xs ++ x ∷ []) ≡ count_by p xs
  count_push_no xs x e =
      let h : count_by p (xs ++ x ∷ []) ≡ count_by p xs + 0 =
      count_push xs x ∙ ap (λ b. count_by p xs + cond {A = ℕ} b 1 0) e in omega (arith, h)

  pub none_passes : (xs : List A) → list_any p xs ≡ false → count_by p xs ≡ 0
  none_passes [] e = refl
  none_passes (x ∷ xs) e =
      let parts = or_parts (p x) (list_any p xs) e in
      let here : cond {A = ℕ} (p x) 1 0 ≡ 0 = ap (λ b. cond {A = ℕ} b 1 0) parts.0 in
      let rest = none_passes xs parts.1 in
      let both = count_cons x xs in
      omega (arith, here, rest, both)

  -- fewer elements, and of them no more that pass
  pub count_filter_le : (q : A → Bool) (xs : List A) → count_by p (filter q xs) ≤ count_by p xs
  count_filter_le q [] = omega arith
  count_filter_le q (x ∷ xs) =
      let rest = count_filter_le q xs in
      let whole = count_cons x xs in
      let less = count_cons x (filter q xs) in
      elim (q x) as (λ b. count_by p (cond b (x ∷ filter q xs) (filter q xs)) ≤ count_by p (x ∷ xs)) [
        | true ↦ omega (arith, rest, whole, less)
        | false ↦ omega (arith, rest, whole)
      ]

module _ {A : Type 0} (p q : A → Bool) where
  -- where no element passes the one test, none passes both
  pub none_both : (xs : List A) → list_any p xs ≡ false → list_any (λ x. p x && q x) xs ≡ false
  none_both [] e = refl
  none_both (x ∷ xs) e =
      let parts = or_parts (p x) (list_any p xs) e in
      ap (λ b. (b && q x) || list_any (λ y. p y && q y) xs) parts.0 ∙ none_both xs parts.1
