-- Whole numbers have no gap and no double.
use Rattle.std.proofs.Common.{◌≡◌, ℕ, zero, suc, ◌+◌, ◌≤◌, cond, ◌==◌, ltb, List, [], ◌∷◌, length, refl, arith, inl}
use Rattle.std.proofs.Common.{inr}
use Rattle.std.specs.List.{sum_by}
use Rattle.std.proofs.lemmas.Bool.{cases_lt}
use Rattle.std.proofs.lemmas.Bool.Decides.{nat_tests}
use Rattle.std.proofs.lemmas.List.Sums.{sum_by-cons}
use Rattle.lf_rules.specs.Numbers.{times, IsMissing, IsDouble, IsWhole}

-- how many numbers are below n
abbrev below : ℕ → List ℕ → ℕ
below n xs = sum_by (λ x. cond (ltb x n) 1 0) xs

one_more : (x n : ℕ) → cond (ltb x (suc n)) 1 0 ≡ cond (ltb x n) 1 0 + cond (x == n) 1 0
one_more x n = grind (arith, nat_tests)

one_less : (x n m : ℕ) → n ≤ m → cond (ltb x n) 1 0 + cond (x == m) 1 0 ≤ 1
one_less x n m le = grind (arith, nat_tests)

below_cons : (n x : ℕ) (xs : List ℕ) → below n (x ∷ xs) ≡ cond (ltb x n) 1 0 + below n xs
below_cons n x xs = sum_by-cons (λ x. cond (ltb x n) 1 0) x xs

times_cons : (k x : ℕ) (xs : List ℕ) → times k (x ∷ xs) ≡ cond (x == k) 1 0 + times k xs
times_cons k x xs = sum_by-cons (λ x. cond (x == k) 1 0) x xs

below_more : (n : ℕ) (xs : List ℕ) → below (suc n) xs ≡ below n xs + times n xs
below_more n [] = refl
below_more n (x ∷ xs) = omega (
  arith,
  below_cons (suc n) x xs,
  below_cons n x xs,
  times_cons n x xs,
  one_more x n,
  below_more n xs,
)

none_below : (x : ℕ) → cond (ltb x 0) 1 0 + 0 ≡ 0
none_below x = grind (arith, nat_tests)

below_none : (xs : List ℕ) → below 0 xs ≡ 0
below_none [] = refl
below_none (x ∷ xs) = omega (arith, below_cons 0 x xs, none_below x, below_none xs)

below_and_above : (n m : ℕ) (xs : List ℕ) → n ≤ m → below n xs + times m xs ≤ length xs
below_and_above n m [] le = omega arith
below_and_above n m (x ∷ xs) le = omega (
  arith,
  below_cons n x xs,
  times_cons m x xs,
  one_less x n m le,
  below_and_above n m xs le,
)

below_whole : (xs : List ℕ) → IsWhole xs → (n : ℕ) → n ≤ length xs → below n xs ≡ n
below_whole xs whole zero le = below_none xs
below_whole xs whole (suc n) le = omega (
  arith,
  below_more n xs,
  whole n (omega arith),
  below_whole xs whole n
      (omega arith),
)

none_above : (xs : List ℕ) → IsWhole xs → (m : ℕ) → length xs ≤ m → times m xs ≡ 0
none_above xs whole m le = omega (
  arith,
  below_and_above (length xs) m xs le,
  below_whole xs whole (length xs)
      (omega arith),
)

pub no_gap : (xs : List ℕ) → IsWhole xs → (k : ℕ) → IsMissing xs k → ⊥
no_gap xs whole k gap =
    elim (cases_lt gap.1.0 (length xs)) [
      | inl lt ↦ let before = gap.1.1 in let some = whole k (omega (arith, before)) in let none = gap.0 in
          absurd (omega (arith, some, none))
      | inr le ↦ let none = none_above xs whole gap.1.0 le in let some = gap.1.2 in absurd (omega (arith, none, some))
    ]

pub no_double : (xs : List ℕ) → IsWhole xs → (k : ℕ) → IsDouble xs k → ⊥
no_double xs whole k double =
    elim (cases_lt k (length xs)) [
      | inl lt ↦ let one = whole k lt in absurd (omega (arith, one, double))
      | inr le ↦ let none = none_above xs whole k le in absurd (omega (arith, none, double))
    ]
