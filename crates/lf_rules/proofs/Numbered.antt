-- The records of a bank in the order of their numbers.
use Rattle.std.proofs.Common.{◌≡◌, ℕ, zero, suc, ◌+◌, ◌<◌, ◌≤◌, Bool, true, false, cond, ◌==◌, List, ◌∷◌, length}
use Rattle.std.proofs.Common.{get_or, ◌⊎◌, inl, inr, refl, sym, ap, ◌∙◌, subst, eq-eqb, eqb-true, true≢false, arith}
use Rattle.std.proofs.lemmas.Bool.{cond-false, cases_lt}
use Rattle.std.proofs.lemmas.List.{get_or-map, same_lists, length-map, get_or_default}
use Rattle.std.proofs.lemmas.List.Elements.{Contains-get_or}
use Rattle.std.proofs.lemmas.List.FromFn.{get_or-range_with_len}
use Rattle.std.proofs.lemmas.List.Sorted.{IsPermutation-sym, IsPermutation-trans, IsPermutation-map}
use Rattle.std.proofs.lemmas.List.Sorted.{Contains-permutation, length_permutation, sum_by-IsPermutation}
use Rattle.std.proofs.lemmas.List.Sums.{sum_by-cons}
use Rattle.std.specs.List.{range_with_len}
use Rattle.std.specs.List.Sorted.{IsPermutation}
use Rattle.lf_rules.specs.declared.event.Record.{Record}
use Rattle.lf_rules.specs.Run.{of_bank}
use Rattle.lf_rules.specs.Numbers.{all_records, numbers_of, bank_numbers, times, IsMissing, IsDouble, IsWhole}
use Rattle.lf_rules.specs.Numbers.{IsNumbered, InterleavingsAreNumbered, NumberedIsOne, NumberedIsWhole}
use Rattle.lf_rules.specs.Numbers.{GapsAdmitNone}
use Rattle.lf_rules.proofs.Permuted.{interleaving_permutes_bank}

-- ---- how often a number stands in a range

ne_eqb : (a b : ℕ) → (a ≡ b → ⊥) → (a == b) ≡ false
ne_eqb a b apart = go (a == b) refl
  where
    go : (t : Bool) → (a == b) ≡ t → t ≡ false
    go true e = absurd (apart (eqb-true a b e))
    go false e = refl

times_cons : (k n : ℕ) (ns : List ℕ) → times k (n ∷ ns) ≡ cond (n == k) 1 0 + times k ns
times_cons k n ns = sum_by-cons (λ m. cond (m == k) 1 0) n ns

none_of_range : (a n k : ℕ) → (k < a) ⊎ (a + n ≤ k) → times k (range_with_len a n) ≡ 0
none_of_range a zero k out = refl
none_of_range a (suc n) k out =
    let apart : a ≡ k → ⊥ = λ e. (elim out [ inl lt ↦ omega arith | inr le ↦ omega arith ]) in
    let further : (k < a + 1) ⊎ (a + 1 + n ≤ k) = (elim out
    [ inl lt ↦ inl (omega arith) | inr le ↦ inr (omega arith) ]) in
    let here = cond-false {A = ℕ} (a == k) 1 0 (ne_eqb a k apart) in
    let rest = none_of_range (a + 1) n k further in
    times_cons k a (range_with_len (a + 1) n) ∙ omega (arith, here, rest)

one_of_range : (a n k : ℕ) → a ≤ k → k < a + n → times k (range_with_len a n) ≡ 1
one_of_range a zero k le lt = absurd (omega arith)
one_of_range a (suc n) k le lt = times_cons k a (range_with_len (a + 1) n) ∙ go (a == k) refl (one_of_range (a + 1) n k)
  where
    go : (t : Bool) → (a == k) ≡ t → (a + 1 ≤ k → k < a + 1 + n → times k (range_with_len (a + 1) n) ≡ 1) →
        cond t 1 0 + times k (range_with_len (a + 1) n) ≡ 1
    go true e next =
        let same = eqb-true a k e in
        let before : k < a + 1 = omega arith in
        let rest = none_of_range (a + 1) n k (inl before) in omega (arith, rest)
    go false e next =
        let apart : a ≡ k → ⊥ = λ same. true≢false (sym (eq-eqb a k same) ∙ e) in
        let after : a + 1 ≤ k = omega arith in
        let within : k < a + 1 + n = omega arith in
        let rest = next after within in omega (arith, rest)

-- ---- the numbers of a bank whose records are numbered

module _ (logs : List (List Record)) (bank : ℕ) (rs : List Record) (is : IsNumbered logs bank rs) where
  numbers_permute : IsPermutation (numbers_of rs) (bank_numbers logs bank)
  numbers_permute = IsPermutation-map (λ (r : Record). r.number) rs (of_bank bank (all_records logs)) is.same

  times_are : (k : ℕ) → times k (bank_numbers logs bank) ≡ times k (range_with_len 0 (length rs))
  times_are k = sum_by-IsPermutation (λ n. cond (n == k) 1 0) (numbers_of rs) (bank_numbers logs bank) numbers_permute
      ∙ ap (times k) is.numbers

  length_is : length (bank_numbers logs bank) ≡ length rs
  length_is = length_permutation (numbers_of rs) (bank_numbers logs bank) numbers_permute
      ∙ length-map rs (λ (r : Record). r.number)

  once_below : (k : ℕ) → k < length rs → times k (bank_numbers logs bank) ≡ 1
  once_below k lt = times_are k ∙ one_of_range 0 (length rs) k (omega arith) (omega arith)

  none_from : (k : ℕ) → length rs ≤ k → times k (bank_numbers logs bank) ≡ 0
  none_from k le = let out : 0 + length rs ≤ k = omega arith in times_are k ∙ none_of_range 0 (length rs) k (inr out)

  pub whole_if_numbered : IsWhole (bank_numbers logs bank)
  whole_if_numbered k lt = let e = length_is in once_below k (omega arith)

  no_gap_if_numbered : (k : ℕ) → IsMissing (bank_numbers logs bank) k → ⊥
  no_gap_if_numbered k gap =
      (elim (cases_lt gap.1.0 (length rs)) [
        | inl lt ↦ let before = gap.1.1 in let one = once_below k (omega arith) in let none = gap.0 in
            omega (arith, one, none)
        | inr le ↦ let none = none_from gap.1.0 le in let some = gap.1.2 in omega (arith, none, some)
      ])

  no_double_if_numbered : (k : ℕ) → IsDouble (bank_numbers logs bank) k → ⊥
  no_double_if_numbered k double =
      (elim (cases_lt k (length rs)) [
        | inl lt ↦ let one = once_below k lt in omega (arith, one, double)
        | inr le ↦ let none = none_from k le in omega (arith, none, double)
      ])

pub numbered_is_whole : NumberedIsWhole
numbered_is_whole = whole_if_numbered

pub interleavings_are_numbered : InterleavingsAreNumbered
interleavings_are_numbered logs rs is keeps bank named = record {
  numbers = keeps bank named;
  same =
      interleaving_permutes_bank logs rs is bank;
}

pub gaps_admit_none : GapsAdmitNone
gaps_admit_none logs bank k named (inl gap) rs is keeps = no_gap_if_numbered logs bank (of_bank bank rs)
    (interleavings_are_numbered logs rs is keeps bank named) k gap
gaps_admit_none logs bank k named (inr double) rs is keeps =
    no_double_if_numbered logs bank (of_bank bank rs) (interleavings_are_numbered logs rs is keeps bank named) k
    double

-- ---- there is one order by numbers

number_at : (rs : List Record) → numbers_of rs ≡ range_with_len 0 (length rs) → (i : ℕ) (d : Record) → i < length rs →
    (get_or rs i d).number ≡ i
number_at rs is i d lt =
    sym (get_or-map (λ (r : Record). r.number) rs i d 0 lt)
    ∙ ap (λ (ns : List ℕ). get_or ns i 0) is ∙ get_or-range_with_len 0 (length rs) i 0 lt ∙ omega arith

pub numbered_is_one : NumberedIsOne
numbered_is_one logs bank a b first second =
    let both : IsPermutation a b = IsPermutation-trans a (of_bank bank (all_records logs)) b first.same
    (IsPermutation-sym b (of_bank bank (all_records logs)) second.same) in
    let lengths : length b ≡ length a = length_permutation a b both in
    same_lists a b (sym lengths) (λ i d lt.
    let x = get_or a i d in
    let there = Contains-permutation a b x both (Contains-get_or a i d lt) in
    let at_a : x.number ≡ i = number_at a first.numbers i d lt in
    let at_b : (get_or b there.0 x).number ≡ there.0 = number_at b second.numbers there.0 x there.1 in
    let place : there.0 ≡ i = sym at_b ∙ ap (λ (r : Record). r.number) there.2 ∙ at_a in
    sym (subst (λ j. get_or b j x ≡ x) place there.2) ∙ get_or_default b i x d (omega arith))
