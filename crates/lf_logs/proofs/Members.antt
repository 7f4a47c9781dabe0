-- What stands in a list, and stays through filters and joined lists.
use Rattle.std.proofs.Common.{◌≡◌, ℕ, zero, suc, Bool, true, false, List, [], ◌∷◌, ◌++◌, length, get_or, Some, sym}
use Rattle.std.proofs.Common.{ap, ◌∙◌, subst, ◌⊎◌, inl, inr, ⊎_elim, arith}
use Rattle.std.specs.List.{filter, flat_map, slice_get}
use Rattle.std.proofs.lemmas.Bool.{cases_Bool, cond-true, cond-false}

abbrev pub IsIn : {X : Type 0} → X → List X → Type 0
IsIn x [] = ⊥
IsIn x (y ∷ ys) = (y ≡ x) ⊎ IsIn x ys

pub IsIn-get : {X : Type 0} (xs : List X) (i : ℕ) (x : X) → slice_get xs i ≡ Some x → IsIn x xs
IsIn-get [] i x e = absurd (cc)
IsIn-get (y ∷ ys) zero x e = inl cc
IsIn-get (y ∷ ys) (suc i) x e = inr (IsIn-get ys i x e)

pub IsIn-left : {X : Type 0} (x : X) (xs ys : List X) → IsIn x xs → IsIn x (xs ++ ys)
IsIn-left x [] ys h = absurd h
IsIn-left x (z ∷ zs) ys h = ⊎_elim (λ e. inl e) (λ r. inr (IsIn-left x zs ys r)) h

pub IsIn-right : {X : Type 0} (x : X) (xs ys : List X) → IsIn x ys → IsIn x (xs ++ ys)
IsIn-right x [] ys h = h
IsIn-right x (z ∷ zs) ys h = inr (IsIn-right x zs ys h)

-- what stands in one list stands in all of them joined
pub IsIn-joined : {X : Type 0} (x : X) (xss : List (List X)) (i : ℕ) → IsIn x (get_or xss i []) →
    IsIn x (flat_map (λ xs. xs) xss)
IsIn-joined x [] i h = absurd h
IsIn-joined x (xs ∷ xss) zero h = IsIn-left x xs (flat_map (λ xs. xs) xss) h
IsIn-joined x (xs ∷ xss) (suc i) h = IsIn-right x xs (flat_map (λ xs. xs) xss) (IsIn-joined x xss i h)

pub IsIn-filter : {X : Type 0} (p : X → Bool) (x : X) (xs : List X) → IsIn x xs → p x ≡ true → IsIn x (filter p xs)
IsIn-filter p x [] h e = h
IsIn-filter p x (y ∷ ys) h e = ⊎_elim
    (λ (here : y ≡ x).
    let keeps : p y ≡ true = ap p here ∙ e in
    subst (IsIn x) (sym (cond-true (p y) (y ∷ filter p ys) (filter p ys) keeps)) (inl here))
    (λ (later : IsIn x ys).
    let rest = IsIn-filter p x ys later e in
    ⊎_elim
    (λ (keeps : p y ≡ true). subst (IsIn x) (sym (cond-true (p y) (y ∷ filter p ys) (filter p ys) keeps)) (inr rest))
    (λ (leaves : p y ≡ false). subst (IsIn x) (sym (cond-false (p y) (y ∷ filter p ys) (filter p ys) leaves)) rest)
    (cases_Bool (p y)))
    h

-- what stands in a list of one is that one
pub only_one : {X : Type 0} (x : X) (xs : List X) → length xs ≡ 1 → IsIn x xs → xs ≡ x ∷ []
only_one x [] one h = absurd h
only_one x (y ∷ []) one h = ⊎_elim (λ e. ap (λ z. z ∷ []) e) (λ no_more. absurd no_more) h
only_one x (y ∷ z ∷ zs) one h = absurd (omega arith)
