-- A register file holds no more targets than it has places.
use Rattle.std.proofs.Common.{◌≡◌, ◌≢◌, ℕ, zero, suc, ◌+◌, ◌*◌, ◌<◌, ◌≤◌, Bool, true, false, cond, not, ◌==◌, List}
use Rattle.std.proofs.Common.{[], ◌∷◌, ◌++◌, length, refl, ap, subst, arith, eq-eqb, ne_eqb, suc-mul, inl, inr}
use Rattle.std.specs.Prelude.{count_by, filter}
use Rattle.std.proofs.lemmas.Bool.{cases_eq, not-true}
use Rattle.std.specs.List.{list_any}
use Rattle.std.proofs.lemmas.List.Sums.{length-filter}
use Rattle.std.proofs.lemmas.List.Filters.{length-filter_both}
use Rattle.lf_rules.specs.Registers.{Held, is_free}
use Rattle.lf_mshr.specs.Bounds.{IsWithin}
use Rattle.lf_mshr.proofs.Counts.{count_cons, count_push_yes, count_push_no, count_filter_le, none_passes}

-- a list is no longer than there are keys, times how often each key occurs
module _ {A : Type 0} (key : A → ℕ) where
  pub length_by_keys : (keys most : ℕ) (xs : List A) → ((k : ℕ) → count_by (λ x. key x == k) xs ≤ most) →
      ((k : ℕ) → keys ≤ k → count_by (λ x. key x == k) xs ≡ 0) → length xs ≤ keys * most
  length_by_keys zero most [] few none = omega arith
  length_by_keys zero most (x ∷ xs) few none =
      let here : cond {A = ℕ} (key x == key x) 1 0 ≡ 1 = ap (λ b. cond {A = ℕ} b 1 0) (eq-eqb (key x) (key x) refl) in
      let whole = count_cons (λ y. key y == key x) x xs in
      let gone = none (key x) (omega arith) in
      absurd (omega (arith, here, whole, gone))
  length_by_keys (suc n) most xs few none =
      let p : A → Bool = λ x. key x == n in
      let rest = filter (λ x. not (p x)) xs in
      let both : length (filter p xs) + length rest ≡ length xs =
      length-filter_both p (λ x. not (p x)) (λ _. refl) xs in
      let own : length (filter p xs) ≡ count_by p xs = length-filter p xs in
      let one : count_by p xs ≤ most = few n in
      let others : length rest ≤ n * most = length_by_keys n most rest (λ k. less k) none' in
      omega (arith, both, own, one, others, suc-mul n most)
    where
      less : (k : ℕ) → count_by (λ x. key x == k) (filter (λ x. not (key x == n)) xs) ≤ most
      less k = let a = count_filter_le (λ x. key x == k) (λ x. not (key x == n)) xs in let b = few k in
          omega (arith, a, b)

      gone : (ys : List A) → count_by (λ x. key x == n) (filter (λ x. not (key x == n)) ys) ≡ 0
      gone [] = refl
      gone (y ∷ ys) = at (gone ys) (key y == n) refl
        where
          at : count_by (λ x. key x == n) (filter (λ x. not (key x == n)) ys) ≡ 0 → (b : Bool) → (key y == n) ≡ b
              → count_by (λ x. key x == n) (cond (not b) (y ∷ filter (λ x. not (key x == n)) ys)
              (filter (λ x. not (key x == n)) ys)) ≡ 0
          at none true e = none
          at none false e =
              let here : cond {A = ℕ} (key y == n) 1 0 ≡ 0 = ap (λ b. cond {A = ℕ} b 1 0) e in
              let whole = count_cons (λ x. key x == n) y (filter (λ x. not (key x == n)) ys) in
              omega (arith, here, whole, none)

      none' : (k : ℕ) → n ≤ k → count_by (λ x. key x == k) (filter (λ x. not (key x == n)) xs) ≡ 0
      none' k le =
          (elim (cases_eq n k) [
            | inl e ↦ subst (λ j. count_by (λ x. key x == j) (filter (λ x. not (key x == n)) xs) ≡ 0) e (gone xs)
            | inr ne ↦ let a = count_filter_le (λ x. key x == k) (λ x. not (key x == n)) xs in let b =
                none k (omega arith) in omega (arith, a, b)
          ])

module _ {T : Type 0} {registers most : ℕ} {held : List (Held T)} (within : IsWithin registers most held) where
  pub IsWithin-push : (h : Held T) → h.register < registers → count_by (λ g. g.register == h.register) held < most →
      IsWithin registers most (held ++ h ∷ [])
  IsWithin-push h exists room = record {
    few = λ r. (elim (cases_eq h.register r) [
      | inl e ↦ subst (λ k. count_by (λ g. g.register == k) (held ++ h ∷ []) ≤ most) e (own refl)
      | inr ne ↦ let same = count_push_no (λ g. g.register == r) held h (ne_eqb h.register r ne) in let was =
          within.few r in omega (arith, same, was)
    ]);
    none = λ r above.
        let ne : h.register ≢ r = omega arith in
        let same = count_push_no (λ g. g.register == r) held h (ne_eqb h.register r ne) in
        let was = within.none r above in
        omega (arith, same, was);
  }
    where
      own : h.register ≡ h.register → count_by (λ g. g.register == h.register) (held ++ h ∷ []) ≤ most
      own e = let more = count_push_yes (λ g. g.register == h.register) held h (eq-eqb h.register h.register e) in
          omega (arith, more)

  pub IsWithin-filter : (q : Held T → Bool) → IsWithin registers most (filter q held)
  IsWithin-filter q = record {
    few = λ r. let less = count_filter_le (λ h. h.register == r) q held in let was = within.few r in
        omega (arith, less, was);
    none = λ r above. let less = count_filter_le (λ h. h.register == r) q held in let was = within.none r above in
        omega (arith, less, was);
  }

module _ {T : Type 0} where
  pub free-count : (held : List (Held T)) (register : ℕ) → is_free held register ≡ true →
      count_by (λ h. h.register == register) held ≡ 0
  free-count held register free = none_passes (λ h. h.register == register) held
      (not-true (list_any (λ h. h.register == register) held) free)

  pub IsWithin-empty : (registers most : ℕ) → IsWithin {T = T} registers most []
  IsWithin-empty registers most = record { few = λ r. omega arith; none = λ r above. refl }
