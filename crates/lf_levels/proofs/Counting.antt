-- How many items of a list pass a test.
use Rattle.std.proofs.Common.{ℕ, zero, suc, ◌≡◌, ◌<◌, ◌≤◌, ◌+◌, ◌-◌, Bool, true, false, cond, List, [], ◌∷◌, length}
use Rattle.std.proofs.Common.{take, drop, get_or}
use Rattle.std.proofs.Common.{refl, ap, sym, ◌∙◌, arith, length-drop, Some, None, get_or-take, get_or-drop}
use Rattle.std.proofs.Common.{length-take-le, not}
use Rattle.std.proofs.Math.Seq.{drop-length}
use Rattle.std.specs.Prelude.{count_by, slice_set}
use Rattle.std.specs.List.{position, position_or_len, slice_range}
use Rattle.std.proofs.lemmas.Bool.{cases_Bool, cases_lt, lt-ltb, le-ltb}
use Rattle.std.proofs.lemmas.List.{drop_more}
use Rattle.std.proofs.lemmas.List.Quantifiers.{position-Some}
use Rattle.std.proofs.Math.Logic.{⊎_elim, ◌⊎◌, inl, inr}
use Rattle.std.proofs.lemmas.List.Sums.{sum_by-cons, sum_by-set, sum_by-take-drop, get_or-le-sum_by}
use Rattle.std.proofs.lemmas.List.Sums.{count_by-le-length, fails_before_first, prefix_len-le-length}

module _ {X : Type 0} (p : X → Bool) where
  -- what an item counts for
  abbrev pub worth : X → ℕ
  worth x = cond (p x) 1 0

  pub worth-yes : (x : X) → p x ≡ true → worth x ≡ 1
  worth-yes x e = ap (λ b. cond {A = ℕ} b 1 0) e

  pub worth-no : (x : X) → p x ≡ false → worth x ≡ 0
  worth-no x e = ap (λ b. cond {A = ℕ} b 1 0) e

  pub worth-le : (x : X) → worth x ≤ 1
  worth-le x = ⊎_elim (λ e. omega (arith, worth-yes x e)) (λ e. omega (arith, worth-no x e)) (cases_Bool (p x))

  pub count-cons : (x : X) (xs : List X) → count_by p (x ∷ xs) ≡ worth x + count_by p xs
  count-cons x xs = sum_by-cons worth x xs

  pub count-set : (xs : List X) (i : ℕ) (y d : X) → i < length xs →
      count_by p (slice_set xs i y) + worth (get_or xs i d) ≡ count_by p xs + worth y
  count-set xs i y d lt = sum_by-set worth xs i y d lt

  -- an item that passes is counted
  pub count-some : (xs : List X) (i : ℕ) (d : X) → i < length xs → p (get_or xs i d) ≡ true → 1 ≤ count_by p xs
  count-some xs i d lt e = omega (arith, get_or-le-sum_by worth xs i d lt, worth-yes (get_or xs i d) e)

  pub count-none : (xs : List X) (d : X) → ((k : ℕ) → k < length xs → p (get_or xs k d) ≡ false) → count_by p xs ≡ 0
  count-none [] d fail = refl
  count-none (x ∷ xs) d fail =
      omega (
        arith,
        count-cons x xs,
        worth-no x (fail zero (omega arith)),
        count-none xs d
            (λ k lt. fail (suc k) (omega arith)),
      )

  pub count-all : (xs : List X) (d : X) → ((k : ℕ) → k < length xs → p (get_or xs k d) ≡ true) →
      count_by p xs ≡ length xs
  count-all [] d pass = refl
  count-all (x ∷ xs) d pass =
      omega (
        arith,
        count-cons x xs,
        worth-yes x (pass zero (omega arith)),
        count-all xs d
            (λ k lt. pass (suc k) (omega arith)),
      )

  -- an item that does not pass is not counted
  pub count-short : (xs : List X) (i : ℕ) (d : X) → i < length xs → p (get_or xs i d) ≡ false →
      count_by p xs < length xs
  count-short [] i d lt e = absurd (omega arith)
  count-short (x ∷ xs) zero d lt e = omega (arith, count-cons x xs, worth-no x e, count_by-le-length p xs)
  count-short (x ∷ xs) (suc i) d lt e = omega (arith, count-cons x xs, worth-le x, count-short xs i d (omega arith) e)

  -- only items of one part of the list pass
  module _ (xs : List X) (from many : ℕ) (d : X) (inside : from + many ≤ length xs) where
    abbrev pub part : List X
    part = take many (drop from xs)

    pub length-part : length part ≡ many
    length-part = length-take-le many (drop from xs) (omega (arith, length-drop from xs))

    pub part_at : (k : ℕ) → k < many → get_or part k d ≡ get_or xs (from + k) d
    part_at k lt = get_or-take many (drop from xs) k d lt ∙ get_or-drop from xs k d

    pub count-part : ((k : ℕ) → k < length xs → p (get_or xs k d) ≡ true → (from ≤ k) × (k < from + many)) →
        count_by p xs ≡ count_by p part
    count-part only =
        let low = sum_by-take-drop worth xs from in
        let high = sum_by-take-drop worth (drop from xs) many in
        let below = count-none (take from xs) d (λ k lt.
        let few = length-take-le from xs (omega arith) in
        ap p (get_or-take from xs k d (omega (arith, few))) ∙ fails k (omega (arith, few)) (inl (omega (arith, few))))
        in
        let above = count-none (drop many (drop from xs)) d (λ k lt.
        let left = length-drop many (drop from xs) in
        let right = length-drop from xs in
        ap p (get_or-drop many (drop from xs) k d ∙ get_or-drop from xs (many + k) d)
        ∙ fails (from + (many + k)) (omega (arith, left, right)) (inr (omega arith))) in
        omega (arith, low, high, below, above)
      where
        fails : (k : ℕ) → k < length xs → (k < from) ⊎ (from + many ≤ k) → p (get_or xs k d) ≡ false
        fails k lt out = ⊎_elim
            (λ e. let both = only k lt e in ⊎_elim (λ l. absurd (omega (arith, both.0)))
            (λ r. absurd (omega (arith, both.1))) out)
            (λ e. e)
            (cases_Bool (p (get_or xs k d)))

  -- ---- the first of a part that passes

  none-pass : (xs : List X) (d : X) → position p xs ≡ None → (k : ℕ) → k < length xs → p (get_or xs k d) ≡ false
  none-pass xs d e k lt = ⊎_elim
      (λ (h : position_or_len p xs < length xs). absurd (cc
      (sym (ap (λ b. cond b (Some (position_or_len p xs)) None) (lt-ltb (position_or_len p xs) (length xs) h))
      ∙ e)))
      (λ (h : length xs ≤ position_or_len p xs). fails_before_first p xs k d (omega arith))
      (cases_lt (position_or_len p xs) (length xs))

  module _ (xs : List X) (from many : ℕ) (d : X) (inside : from + many ≤ length xs) where
    same_part : slice_range xs from (from + many) ≡ part xs from many d inside
    same_part = ap (λ n. take n (drop from xs)) (omega arith)

    pub part-finds : (i : ℕ) → position p (slice_range xs from (from + many)) ≡ Some i → (i < many) ×
        (p (get_or xs (from + i) d) ≡ true)
    part-finds i e =
        let found = position-Some p (part xs from many d inside) i d (ap (position p) (sym same_part) ∙ e) in
        let lt : i < many = omega (arith, found.0, length-part xs from many d inside) in
        (lt, ap p (sym (part_at xs from many d inside i lt)) ∙ found.1)

    pub part-lacks : position p (slice_range xs from (from + many)) ≡ None → (k : ℕ) → from ≤ k → k < from + many →
        p (get_or xs k d) ≡ false
    part-lacks e k low high =
        let i = k - from in
        let lt : i < many = omega arith in
        let at : get_or (part xs from many d inside) i d ≡ get_or xs k d =
        part_at xs from many d inside i lt ∙ ap (λ n. get_or xs n d) (omega arith) in
        ap p (sym at) ∙ none-pass (part xs from many d inside) d (ap (position p) (sym same_part) ∙ e) i
        (omega (arith, length-part xs from many d inside))

  -- ---- the first from a place on that passes

  module _ (xs : List X) where
    -- its place, or the length where none passes
    abbrev pub first_from : ℕ → ℕ
    first_from left = left + position_or_len p (drop left xs)

    first-at : (left : ℕ) (d : X) → left < length xs → position_or_len p (drop left xs)
        ≡ cond (not (p (get_or xs left d))) (1 + position_or_len p (drop (left + 1) xs)) 0
    first-at left d lt = ap (position_or_len p) (drop_more xs left d lt)

    pub first-start : length xs ≡ first_from (length xs)
    first-start = omega (arith, ap (position_or_len p) (drop-length xs))

    pub first-here : (left : ℕ) (d : X) → left < length xs → p (get_or xs left d) ≡ true → left ≡ first_from left
    first-here left d lt e =
        let none = first-at left d lt
        ∙ ap (λ b. cond (not b) (1 + position_or_len p (drop (left + 1) xs)) 0) e in
        omega (arith, none)

    pub first-behind : (left : ℕ) (d : X) → left < length xs → p (get_or xs left d) ≡ false →
        first_from (left + 1) ≡ first_from left
    first-behind left d lt e =
        let one = first-at left d lt
        ∙ ap (λ b. cond (not b) (1 + position_or_len p (drop (left + 1) xs)) 0) e in
        omega (arith, one)

    pub first-found : (place : ℕ) → place ≡ first_from 0 → (place ≡ length xs → ⊥) → Some place ≡ position p xs
    first-found place e other =
        let same : place ≡ position_or_len p xs = omega (arith, e) in
        let lt : position_or_len p xs < length xs =
        omega (arith, same, other, prefix_len-le-length (λ x. not (p x)) xs) in
        ap Some same
        ∙ sym (ap (λ b. cond b (Some (position_or_len p xs)) None) (lt-ltb (position_or_len p xs) (length xs) lt))

    pub first-lacking : length xs ≡ first_from 0 → None ≡ position p xs
    first-lacking e = sym (ap (λ b. cond b (Some (position_or_len p xs)) None)
        (le-ltb (position_or_len p xs) (length xs) (omega (arith, e))))
