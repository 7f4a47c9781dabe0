-- What a bank's records are that were given out in the order of their numbers.
use Rattle.std.proofs.Common.{◌≡◌, ℕ, ◌+◌, ◌<◌, ◌≤◌, zero, suc, false, eqb, ltb, List, [], ◌∷◌, ◌++◌, length, Some}
use Rattle.std.proofs.Common.{None, is_some, refl, sym, ap, ◌∙◌, subst, inl, inr, ⊎_elim, arith, option_to_list}
use Rattle.std.specs.List.{AllByRecursion, slice_get, flat_map, range_with_len}
use Rattle.std.specs.List.Sorted.{IsPermutation}
use Rattle.std.proofs.lemmas.Bool.{cases_eq, eq-eqb}
use Rattle.std.proofs.lemmas.List.{length-map}
use Rattle.std.proofs.lemmas.List.Sums.{count_by-le-length}
use Rattle.std.proofs.lemmas.List.Sorted.{IsPermutation-sym}
use Rattle.lf_rules.specs.declared.event.Record.{Record}
use Rattle.lf_rules.specs.Numbers.{numbers_of, times, IsWhole}
use Rattle.lf_logs.specs.Reordering.{Reordering, first_with, HasOrdered}
use Rattle.lf_logs.proofs.Counting.{once_below, count_by-below-suc}
use Rattle.lf_logs.proofs.Members.{IsIn, IsIn-filter, only_one}
use Rattle.lf_logs.proofs.Ordered.{with_number, by_number, times_is, whole_by_number}
use Rattle.lf_logs.proofs.Reordered.{below_or, none_or_some, first_with-here, first_with-there, first_with-number}
use Rattle.lf_logs.proofs.Reordered.{times-none, times-is_some, given-there}

-- the first record with a number is one of the records
pub first_with-in : (k : ℕ) (rs : List Record) (r : Record) → first_with k rs ≡ Some r → IsIn r rs
first_with-in k [] r e = absurd (cc)
first_with-in k (x ∷ rs) r e = ⊎_elim
    (λ (h : x.number ≡ k).
    let same : Some x ≡ Some r = sym (first_with-here k x rs h) ∙ e in
    let is : x ≡ r = cc in inl is)
    (λ (n : x.number ≡ k → ⊥). inr (first_with-in k rs r (sym (first_with-there k x rs n) ∙ e)))
    (cases_eq x.number k)

all_in : (P : Record → Type 0) (rs : List Record) (r : Record) → AllByRecursion P rs → IsIn r rs → P r
all_in P [] r all there = absurd there
all_in P (x ∷ rs) r all there = ⊎_elim (λ (e : x ≡ r). subst P e all.0) (λ rest. all_in P rs r all.1 rest) there

pub first_with-all : (P : Record → Type 0) (k : ℕ) (rs : List Record) (r : Record) → AllByRecursion P rs →
    first_with k rs ≡ Some r → P r
first_with-all P k rs r all e = all_in P rs r all (first_with-in k rs r e)

-- where a number occurs once, its records are that one
pub first_with-only : (k : ℕ) (rs : List Record) (r : Record) → first_with k rs ≡ Some r →
    times k (numbers_of rs) ≡ 1 → with_number k rs ≡ r ∷ []
first_with-only k rs r e once =
    only_one r (with_number k rs) (sym (times_is k rs) ∙ once)
    (IsIn-filter (λ r. eqb r.number k) r rs (first_with-in k rs r e) (eq-eqb r.number k (first_with-number k rs r e)))

one_by_one : (g : ℕ → List Record) (a : ℕ) (xs : List Record) →
    ((k : ℕ) → k < length xs → option_to_list (slice_get xs k) ≡ g (a + k)) →
    xs ≡ flat_map g (range_with_len a (length xs))
one_by_one g a [] each = refl
one_by_one g a (x ∷ xs) each =
    let at : a + 0 ≡ a = omega arith in
    ap (λ ys. ys ++ xs) (each 0 (omega arith) ∙ ap g at)
    ∙ ap (λ ys. g a ++ ys) (one_by_one g (a + 1) xs (λ k h. let same : a + suc k ≡ a + 1 + k = omega arith in
    each (suc k) (omega arith) ∙ ap g same))

in_order : (a : ℕ) (xs : List Record) → ((k : ℕ) (r : Record) → slice_get xs k ≡ Some r → r.number ≡ a + k) →
    numbers_of xs ≡ range_with_len a (length xs)
in_order a [] each = refl
in_order a (x ∷ xs) each =
    let at : a + 0 ≡ a = omega arith in
    let rest = in_order (a + 1) xs (λ k r e. let same : a + suc k ≡ a + 1 + k = omega arith in
    each (suc k) r e ∙ same) in
    ap (λ n. n ∷ numbers_of xs) (each 0 x refl ∙ at) ∙ ap (λ ns. a ∷ ns) rest

get-below : {X : Type 0} (xs : List X) (k : ℕ) (x : X) → slice_get xs k ≡ Some x → k < length xs
get-below [] k x e = absurd (cc)
get-below (y ∷ xs) zero x e = omega arith
get-below (y ∷ xs) (suc k) x e = omega (arith, get-below xs k x e)

module _ (o : Reordering) (put gave : List Record) (has : HasOrdered o put gave) where
  first_given : (k : ℕ) → k < length gave → (r : Record) × (first_with k put ≡ Some r)
  first_given k h = ⊎_elim
      (λ (none : first_with k put ≡ None). let no : is_some (first_with k put) ≡ false = ap is_some none in let yes =
      given-there o put gave has k h in absurd (cc))
      (λ (some : (r : Record) × (first_with k put ≡ Some r)). some)
      (none_or_some (first_with k put))

  -- they carry 0, 1, 2, ..
  pub given_numbers : numbers_of gave ≡ range_with_len 0 (length gave)
  given_numbers = in_order 0 gave (λ k r e.
      first_with-number k put r (sym (has.given k (get-below gave k r e)) ∙ e) ∙ omega arith)

  -- what holds of all that were put in holds of them
  pub given_all : (P : Record → Type 0) → AllByRecursion P put → AllByRecursion P gave
  given_all P all = each gave (λ k r e. first_with-all P k put r all (sym (has.given k (get-below gave k r e)) ∙ e))
    where
      each : (xs : List Record) → ((k : ℕ) (r : Record) → slice_get xs k ≡ Some r → P r) → AllByRecursion P xs
      each [] at = tt
      each (x ∷ xs) at = (at 0 x refl, each xs (λ k r e. at (suc k) r e))

  -- where the numbers are whole and no record waits, they are all that were put in
  pub given_whole : IsWhole (numbers_of put) → first_with (length gave) put ≡ None → IsPermutation gave put
  given_whole whole drained =
      let long = length-map put (λ (r : Record). r.number) in
      let many : length put ≤ length gave = ⊎_elim
      (λ (h : length gave < length put). absurd (omega (
        arith,
        whole (length gave) (omega arith),
        times-none
            (length gave) put drained,
      )))
      (λ (h : length put ≤ length gave). h)
      (below_or (length gave) (length put)) in
      let few : length gave ≤ length put = ⊎_elim
      (λ (h : length put < length gave).
      let numbers = numbers_of put in
      absurd (omega (
        arith,
        times-is_some (length put) put (given-there o put gave has (length put) h),
        count_by-below-suc (length put) numbers,
        once_below (length put) numbers (λ k h. whole k (omega arith)),
        count_by-le-length (λ m. ltb m (length put + 1)) numbers,
      )))
      (λ (h : length gave ≤ length put). h)
      (below_or (length put) (length gave)) in
      let same : length gave ≡ length put = omega arith in
      let is : gave ≡ by_number (length put) put =
      one_by_one (λ k. with_number k put) 0 gave (λ k h.
      let first = first_given k h in
      let at : 0 + k ≡ k = omega arith in
      ap option_to_list (has.given k h ∙ first.1) ∙ sym (first_with-only k put first.0 first.1
      (whole k (omega arith))) ∙ ap (λ n. with_number n put) (sym at))
      ∙ ap (λ n. by_number n put) same in
      subst (λ xs. IsPermutation xs put) (sym is) (IsPermutation-sym put (by_number (length put) put)
      (whole_by_number put (λ k h. whole k (omega arith))))
