-- The pigeonhole principle over the numbers of a bank: among n numbers, one below n is missing or double,
-- or each below n occurs once and there are no others.
use Rattle.std.proofs.Common.{◌≡◌, ℕ, ◌+◌, ◌<◌, ◌≤◌, zero, suc, Bool, true, false, cond, eqb, ltb, List, [], ◌∷◌}
use Rattle.std.proofs.Common.{length, refl, sym, ap, ◌∙◌, ⊎_elim, arith, add-one}
use Rattle.std.specs.List.{filter, sum_by, count_by}
use Rattle.std.proofs.lemmas.List.Sums.{sum_by-cons, count_by-le-length}
use Rattle.std.proofs.lemmas.Bool.{cases_order, cases_Bool, lt-ltb, le-ltb, ltb-false, eq-eqb, ne_eqb, cond-true}
use Rattle.std.proofs.lemmas.Bool.{cond-false}
use Rattle.lf_rules.specs.Numbers.{times, IsMissing, IsFineBelow}

sum_by-plus : {X : Type 0} (f g h : X → ℕ) → ((x : X) → f x ≡ g x + h x) → (xs : List X) →
    sum_by f xs ≡ sum_by g xs + sum_by h xs
sum_by-plus f g h each [] = refl
sum_by-plus f g h each (x ∷ xs) =
    let all = sum_by-plus f g h each xs in
    omega (arith, sum_by-cons f x xs, sum_by-cons g x xs, sum_by-cons h x xs, each x)

-- what an element adds to a count
abbrev pub counts : Bool → ℕ
counts b = cond b 1 0

pub one_if : (b : Bool) → b ≡ true → counts b ≡ 1
one_if b e = cond-true {A = ℕ} b 1 0 e

pub none_if : (b : Bool) → b ≡ false → counts b ≡ 0
none_if b e = cond-false {A = ℕ} b 1 0 e

pub count_by-cons : {X : Type 0} (p : X → Bool) (x : X) (xs : List X) →
    count_by p (x ∷ xs) ≡ counts (p x) + count_by p xs
count_by-cons p x xs = sum_by-cons (λ x. cond (p x) 1 0) x xs

pub times-cons : (k n : ℕ) (ns : List ℕ) → times k (n ∷ ns) ≡ cond (eqb n k) 1 0 + times k ns
times-cons k n ns = sum_by-cons (λ n. cond (eqb n k) 1 0) n ns

-- a number below n + 1 is below n or is n
below-suc : (n m : ℕ) → cond (ltb m (n + 1)) 1 0 ≡ cond (ltb m n) 1 0 + cond (eqb m n) 1 0
below-suc n m = ⊎_elim
    (λ (e : m ≡ n). rw (lt-ltb m (n + 1) (omega arith), le-ltb m n (omega arith), eq-eqb m n e) refl)
    (λ s. ⊎_elim
    (λ (l : m < n). rw (lt-ltb m (n + 1) (omega arith), lt-ltb m n l, ne_eqb m n (omega arith)) refl)
    (λ (g : n < m). rw (le-ltb m (n + 1) (omega arith), le-ltb m n (omega arith), ne_eqb m n (omega arith)) refl)
    s)
    (cases_order m n)

pub count_by-below-suc : (n : ℕ) (ns : List ℕ) → count_by (λ m. ltb m (n + 1)) ns ≡ count_by (λ m. ltb m n) ns
    + times n ns
count_by-below-suc n ns = sum_by-plus (λ m. cond (ltb m (n + 1)) 1 0) (λ m. cond (ltb m n) 1 0)
    (λ m. cond (eqb m n) 1 0) (below-suc n) ns

count_by-below-zero : (ns : List ℕ) → count_by (λ m. ltb m 0) ns ≡ 0
count_by-below-zero [] = refl
count_by-below-zero (n ∷ ns) =
    omega (
      arith,
      count_by-cons (λ m. ltb m 0) n ns,
      count_by-below-zero ns,
      none_if (ltb n 0)
          (le-ltb n 0 (omega arith)),
    )

-- where each number below n occurs once, there are n of them
pub once_below : (n : ℕ) (ns : List ℕ) → ((k : ℕ) → k < n → times k ns ≡ 1) → count_by (λ m. ltb m n) ns ≡ n
once_below zero ns once = count_by-below-zero ns
once_below (suc n) ns once =
    let before = once_below n ns (λ k h. once k (omega arith)) in
    let same : count_by (λ m. ltb m (suc n)) ns ≡ count_by (λ m. ltb m (n + 1)) ns =
    ap (λ l. count_by (λ m. ltb m l) ns) (sym (add-one n)) in
    omega (arith, count_by-below-suc n ns, once n (omega arith))

-- where not all pass, some number of the list fails
pub some_fails : (p : ℕ → Bool) (ns : List ℕ) → count_by p ns < length ns → (m : ℕ) × (p m ≡ false) × (0 < times m ns)
some_fails p [] few = absurd (omega arith)
some_fails p (n ∷ ns) few = ⊎_elim
    (λ (e : p n ≡ true).
    let rest : count_by p ns < length ns = omega (arith, count_by-cons p n ns, one_if (p n) e, few) in
    let found = some_fails p ns rest in
    (found.0, found.1, omega (arith, times-cons found.0 n ns, found.2)))
    (λ (e : p n ≡ false).
    (n, e, omega (arith, times-cons n n ns, one_if (eqb n n) (eq-eqb n n refl))))
    (cases_Bool (p n))

-- where all pass, a filter keeps all
pub filter-all : {X : Type 0} (p : X → Bool) (xs : List X) → count_by p xs ≡ length xs → filter p xs ≡ xs
filter-all p [] all = refl
filter-all p (x ∷ xs) all = ⊎_elim
    (λ (e : p x ≡ true).
    let rest : count_by p xs ≡ length xs = omega (arith, count_by-cons p x xs, one_if (p x) e, all) in
    cond-true (p x) (x ∷ filter p xs) (filter p xs) e ∙ ap (λ ys. x ∷ ys) (filter-all p xs rest))
    (λ (e : p x ≡ false).
    absurd (omega (arith, count_by-cons p x xs, none_if (p x) e, all, count_by-le-length p xs)))
    (cases_Bool (p x))

-- numbers that occur once are neither missing nor double
pub fine_below : (ns : List ℕ) (k : ℕ) → ((j : ℕ) → j < k → times j ns ≡ 1) → IsFineBelow ns k
fine_below ns k once j h = (λ missing. omega (arith, once j h, missing.0), λ double. omega (arith, once j h, double))

-- the first number below the count that does not occur is missing below a greater one
pub missing_at : (ns : List ℕ) (k : ℕ) → k < length ns → ((j : ℕ) → j < k → times j ns ≡ 1) → times k ns ≡ 0 →
    IsMissing ns k
missing_at ns k inside once absent =
    let found = some_fails (λ m. ltb m k) ns (omega (arith, once_below k ns once)) in
    let from : k ≤ found.0 = ltb-false found.0 k found.1 in
    let other : found.0 ≡ k → ⊥ = λ e. let same : times found.0 ns ≡ times k ns = ap (λ m. times m ns) e in
    omega (arith, found.2) in (
      absent,
      (
        found.0,
        ⊎_elim (λ (e : k ≡ found.0). absurd (other (sym e)))
            (λ s. ⊎_elim (λ (l : k < found.0). l) (λ (g : found.0 < k). absurd (omega arith)) s)
            (cases_order k found.0),
        found.2,
      ),
    )
