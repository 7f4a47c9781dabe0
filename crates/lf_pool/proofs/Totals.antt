-- Totals over lists.
use Rattle.std.proofs.Common.{◌≡◌, ℕ, zero, suc, ◌+◌, ◌<◌, ◌≤◌, cond, List, [], ◌∷◌, length, get_or, set, refl, sym}
use Rattle.std.proofs.Common.{ap, subst, arith, eq-eqb}
use Rattle.std.specs.Prelude.{◌==◌, nat_lt, nat_le, sum_by}
use mathlib.Core.Option.{some, some-injective, some-ne-none}
use lib.ListN.{get_elem?}
use Rattle.std.proofs.lemmas.List.Sums.{sum_by-cons, sum_by-set, get_or-le-sum_by}
use Rattle.std.proofs.lemmas.Bool.Decides.{nat_tests}
use Rattle.lf_pool.specs.Rule.{times}
use Rattle.lf_pool.proofs.Places.{at_within}

module _ {A : Type 0} where
  pub get_or_at : (xs : List A) (i : ℕ) (x d : A) → get_elem? xs i ≡ some x → get_or xs i d ≡ x
  get_or_at [] i x d e = absurd (some-ne-none x (sym e))
  get_or_at (y ∷ ys) zero x d e = some-injective y x e
  get_or_at (y ∷ ys) (suc i) x d e = get_or_at ys i x d e

  -- the total after a change of one element
  pub total_set : (f : A → ℕ) (xs : List A) (i : ℕ) (v w : A) → get_elem? xs i ≡ some v →
      sum_by f (set xs i w) + f v ≡ sum_by f xs + f w
  total_set f xs i v w at = subst (λ (u : A). sum_by f (set xs i w) + f u ≡ sum_by f xs + f w) (get_or_at xs i v v at)
      (sum_by-set f xs i w v (at_within xs i v at))

  pub at_most_total : (f : A → ℕ) (xs : List A) (i : ℕ) (v : A) → get_elem? xs i ≡ some v → f v ≤ sum_by f xs
  at_most_total f xs i v at = subst (λ (u : A). f u ≤ sum_by f xs) (get_or_at xs i v v at)
      (get_or-le-sum_by f xs i v (at_within xs i v at))

  pub total_le : (f g : A → ℕ) (xs : List A) → ((i : ℕ) (v : A) → get_elem? xs i ≡ some v → f v ≤ g v) →
      sum_by f xs ≤ sum_by g xs
  total_le f g [] each = omega arith
  total_le f g (x ∷ xs) each = let here = each 0 x refl in let rest = total_le f g xs (λ i v at. each (suc i) v at) in
      omega (arith, sum_by-cons f x xs, sum_by-cons g x xs)

  total_none : (f g : A → ℕ) (xs : List A) → ((u : A) → g u ≡ 0 → f u ≡ 0) → sum_by g xs ≡ 0 → sum_by f xs ≡ 0
  total_none f g [] zeros e = refl
  total_none f g (x ∷ xs) zeros e =
      let split = sum_by-cons g x xs in
      let here = zeros x (omega arith) in let rest = total_none f g xs zeros (omega arith) in
      omega (arith, sum_by-cons f x xs)

  -- where f is 0 wherever g is, and all of g is one element's, so is all of f
  pub total_one : (f g : A → ℕ) (xs : List A) (i : ℕ) (v : A) → get_elem? xs i ≡ some v →
      ((u : A) → g u ≡ 0 → f u ≡ 0) → sum_by g xs ≡ g v → sum_by f xs ≡ f v
  total_one f g [] i v at zeros e = absurd (some-ne-none v (sym at))
  total_one f g (x ∷ xs) zero v at zeros e =
      let split = sum_by-cons g x xs in
      let same : x ≡ v = some-injective x v at in let gs : g x ≡ g v = ap g same in let fs : f x ≡ f v = ap f same in
      let rest = total_none f g xs zeros (omega arith) in omega (arith, sum_by-cons f x xs)
  total_one f g (x ∷ xs) (suc i) v at zeros e =
      let split = sum_by-cons g x xs in let most = at_most_total g xs i v at in
      let here = zeros x (omega arith) in let rest = total_one f g xs i v at zeros (omega arith) in
      omega (arith, sum_by-cons f x xs)

-- a number of the list stands in it
pub times_here : (xs : List ℕ) (i d : ℕ) → i < length xs → 0 < times (get_or xs i d) xs
times_here xs i d within =
    let x : ℕ = get_or xs i d in
    let most : cond {A = ℕ} (x == x) 1 0 ≤ times x xs = get_or-le-sum_by (λ (y : ℕ). cond {A = ℕ} (y == x) 1 0) xs i d
    within in
    let one : cond {A = ℕ} (x == x) 1 0 ≡ 1 = ap (λ b. cond {A = ℕ} b 1 0) (eq-eqb x x refl) in
    omega arith

-- the numbers below n + 1 are those below n, and n
pub one_more_below : (x n : ℕ) → cond {A = ℕ} (nat_lt x n) 1 0 + cond {A = ℕ} (n == x) 1 0
    ≡ cond {A = ℕ} (nat_lt x (n + 1)) 1 0
one_more_below x n = grind (arith, nat_tests)

pub below_from_once : (x n : ℕ) → 0 < cond {A = ℕ} (nat_lt x n) 1 0 → x < n
below_from_once x n h = grind (arith, nat_tests)

pub once_below : (x n : ℕ) → x < n → cond {A = ℕ} (nat_lt x n) 1 0 ≡ 1
once_below x n h = grind (arith, nat_tests)

pub not_past : (jobs x : ℕ) → x < jobs → cond {A = ℕ} (nat_le jobs x) 1 0 ≡ 0
not_past jobs x h = grind (arith, nat_tests)

pub is_past : (jobs x : ℕ) → jobs ≤ x → cond {A = ℕ} (nat_le jobs x) 1 0 ≡ 1
is_past jobs x h = grind (arith, nat_tests)
