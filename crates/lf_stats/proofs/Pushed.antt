-- What holds of each element stays when one more comes at the end.
use Rattle.std.proofs.Common.{◌≡◌, ℕ, zero, suc, ◌+◌, ◌<◌, ◌≤◌, List, [], ◌∷◌, ◌++◌, length, get_or, refl, sym, subst}
use Rattle.std.proofs.Common.{⊎_elim, arith}
use Rattle.std.proofs.lemmas.Bool.{cases_lt}

pub before_push : {X : Type 0} (xs ys : List X) (i : ℕ) (d : X) → i < length xs → get_or (xs ++ ys) i d ≡ get_or xs i d
before_push [] ys i d h = absurd (omega arith)
before_push (x ∷ xs) ys zero d h = refl
before_push (x ∷ xs) ys (suc i) d h = before_push xs ys i d (omega arith)

at_push : {X : Type 0} (xs : List X) (x d : X) → get_or (xs ++ x ∷ []) (length xs) d ≡ x
at_push [] x d = refl
at_push (y ∷ ys) x d = at_push ys x d

pub each_more : {X : Type 0} (P : ℕ → X → Type 0) (xs : List X) (x : X) (n : ℕ) → length xs ≡ n
    → ((i : ℕ) (d : X) → i < n → P i (get_or xs i d)) → P n x
    → (i : ℕ) (d : X) → i < n + 1 → P i (get_or (xs ++ x ∷ []) i d)
each_more P xs x n long before last i d h = ⊎_elim
    (λ (early : i < length xs). subst (P i) (sym (before_push xs (x ∷ []) i d early)) (before i d (omega arith)))
    (λ (late : length xs ≤ i).
    let here : length xs ≡ i = omega arith in
    let there : n ≡ i = omega arith in
    subst (P i) (sym (subst (λ k. get_or (xs ++ x ∷ []) k d ≡ x) here (at_push xs x d)))
    (subst (λ k. P k x) there last))
    (cases_lt i (length xs))
