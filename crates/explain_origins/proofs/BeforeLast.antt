-- What stands before the last element for which a test holds.
use Rattle.std.proofs.Common.{◌≡◌, ℕ, suc, zero, ◌<◌, Bool, true, false, List, [], ◌∷◌, length, get_or, take, drop}
use Rattle.std.proofs.Common.{drop-cons}
use Rattle.std.proofs.Common.{refl, sym, ap, ◌∙◌, subst, arith}
use Rattle.std.specs.List.{list_any}
use Rattle.std.proofs.lemmas.Bool.{or_left, or_right, or_parts, or_from}
use Rattle.explain_origins.specs.Seen.{before_last}

-- one stands in the list for which it holds
any_at : {T : Type 0} (holds : T → Bool) (xs : List T) (d : T) (n : ℕ) → n < length xs → holds (get_or xs n d) ≡ true
    → list_any holds xs ≡ true
any_at holds [] d n lt is = absurd (omega (arith, lt))
any_at holds (x ∷ xs) d zero lt is = or_left (holds x) (list_any holds xs) is
any_at holds (x ∷ xs) d (suc n) lt is = or_right (holds x) (list_any holds xs)
    (any_at holds xs d n (omega (arith, lt)) is)

take_at : {T : Type 0} (holds : T → Bool) (xs : List T) (d : T) (n : ℕ) → n < length xs → holds (get_or xs n d) ≡ true
    → list_any holds (drop (suc n) xs) ≡ false → before_last holds xs ≡ take n xs
take_at holds [] d n lt is none = absurd (omega (arith, lt))
take_at holds (x ∷ xs) d zero lt is none = rw (none, is) refl
take_at holds (x ∷ xs) d (suc n) lt is none =
    let inside : n < length xs = omega (arith, lt) in
    rw (any_at holds xs d n inside is) (ap (λ ys. x ∷ ys) (take_at holds xs d n inside is none))

-- the last one for which it holds
pub before_last_one : {T : Type 0} (holds : T → Bool) (xs : List T) (d : T) (n next : ℕ) → suc n ≡ next → n < length xs
    → holds (get_or xs n d) ≡ true → list_any holds (drop next xs) ≡ false → before_last holds xs ≡ take n xs
before_last_one holds xs d n next same lt is none =
    take_at holds xs d n lt is (subst (λ (k : ℕ). list_any holds (drop k xs) ≡ false) (sym same) none)

-- one more for which it does not hold
pub none_from : {T : Type 0} (holds : T → Bool) (xs : List T) (d : T) (n next : ℕ) → suc n ≡ next → n < length xs
    → holds (get_or xs n d) ≡ false → list_any holds (drop next xs) ≡ false → list_any holds (drop n xs) ≡ false
none_from holds xs d n next same lt isnt none =
    ap (list_any holds) (drop-cons xs n d lt)
    ∙ or_from (holds (get_or xs n d)) (list_any holds (drop (suc n) xs)) isnt
    (subst (λ (k : ℕ). list_any holds (drop k xs) ≡ false) (sym same) none)

pub before_none : {T : Type 0} (holds : T → Bool) (xs : List T) → list_any holds xs ≡ false → before_last holds xs ≡ xs
before_none holds [] none = refl
before_none holds (x ∷ xs) none =
    let both = or_parts (holds x) (list_any holds xs) none in
    rw (both.1, both.0) refl
