-- Where nothing more can go and the numbers are whole, each log with entries left waits for another.
use Rattle.std.proofs.Common.{◌≡◌, ℕ, zero, suc, ◌+◌, ◌<◌, ◌≤◌, Bool, true, false, cond, ◌==◌, ◌&&◌, inl, inr, List}
use Rattle.std.proofs.Common.{[], ◌∷◌, map}
use Rattle.std.proofs.Common.{filter, length, drop, slice_index, Some, refl, sym, ap, ◌∙◌, subst, eqb-true, eq-eqb}
use Rattle.std.proofs.Common.{arith}
use mathlib.Core.Path.{ap₂}
use Rattle.std.specs.List.{range_with_len}
use Rattle.std.proofs.lemmas.Bool.{cases_Bool, cases_eq, cases_lt, cond-true, cond-false, and_parts, and_from, ne_eqb}
use Rattle.std.proofs.lemmas.List.{length-map}
use Rattle.std.proofs.lemmas.List.Recursion.{is_count_by}
use Rattle.lf_rules.specs.Address.{no_bank}
use Rattle.lf_rules.specs.Order.{log_at, entries_of, EntriesKeepNumbers}
use Rattle.lf_rules.specs.Ring.{entry_at}
use Rattle.lf_rules.specs.Numbers.{times}
use Rattle.lf_join.specs.Join.{BanksAreWhole, next_number}
use Rattle.lf_join.specs.Heads.{next_entry, carries_next, can_go, is_next, IsAt, AllWait, HeadsWait}
use Rattle.lf_join.proofs.Due.{not_due}
use Rattle.lf_join.proofs.Merge.{count, count-append, count-after, count-taken, joined, left_first, carries_can_go}

-- ---- counts

-- how often a number stands among those of a bank
numbered_is : (bank k : ℕ) (xs : List (ℕ × ℕ)) → length (filter (λ n. n == k)
    (map (λ (e : ℕ × ℕ). e.1) (entries_of bank xs))) ≡ count (is_next bank k) xs
numbered_is bank k [] = refl
numbered_is bank k (x ∷ xs) = go (x.0 == bank) (numbered_is bank k xs)
  where
    same : (q : Bool) → length (filter (λ n. n == k) (map (λ (e : ℕ × ℕ). e.1) (entries_of bank xs)))
        ≡ count (is_next bank k) xs
        → length (cond q (x.1 ∷ filter (λ n. n == k) (map (λ (e : ℕ × ℕ). e.1) (entries_of bank xs)))
        (filter (λ n. n == k) (map (λ (e : ℕ × ℕ). e.1) (entries_of bank xs))))
        ≡ length (cond q (x ∷ filter (is_next bank k) xs) (filter (is_next bank k) xs))
    same true rest = ap suc rest
    same false rest = rest

    go : (p : Bool) → length (filter (λ n. n == k) (map (λ (e : ℕ × ℕ). e.1) (entries_of bank xs)))
        ≡ count (is_next bank k) xs
        → length (filter (λ n. n == k) (map (λ (e : ℕ × ℕ). e.1)
        (cond p (x ∷ entries_of bank xs) (entries_of bank xs))))
        ≡ length (cond (p && (x.1 == k)) (x ∷ filter (is_next bank k) xs) (filter (is_next bank k) xs))
    go true rest = same (x.1 == k) rest
    go false rest = rest

pub times_is : (bank k : ℕ) (xs : List (ℕ × ℕ)) → times k (map (λ (e : ℕ × ℕ). e.1) (entries_of bank xs))
    ≡ count (is_next bank k) xs
times_is bank k xs =
    sym (is_count_by (λ (ns : List ℕ). length (filter (λ n. n == k) ns)) (λ n. n == k) refl
    (λ n ns. step (n == k) n (filter (λ m. m == k) ns)) (map (λ (e : ℕ × ℕ). e.1) (entries_of bank xs)))
    ∙ numbered_is bank k xs
  where
    step : (q : Bool) (n : ℕ) (ns : List ℕ) → length (cond q (n ∷ ns) ns) ≡ cond q (1 + length ns) (length ns)
    step true n ns = omega arith
    step false n ns = refl

none_in_range : (a n k : ℕ) → a + n ≤ k → length (filter (λ m. m == k) (range_with_len a n)) ≡ 0
none_in_range a zero k past = refl
none_in_range a (suc n) k past =
    ap length (cond-false (a == k) (a ∷ filter (λ m. m == k) (range_with_len (a + 1) n))
    (filter (λ m. m == k) (range_with_len (a + 1) n)) (ne_eqb a k (λ e. omega (arith, e))))
    ∙ none_in_range (a + 1) n k (omega arith)

some_in_range : (a n k : ℕ) → a ≤ k → k < a + n → 0 < length (filter (λ m. m == k) (range_with_len a n))
some_in_range a zero k from below = absurd (omega arith)
some_in_range a (suc n) k from below =
    let rest = filter (λ m. m == k) (range_with_len (a + 1) n) in
    elim (cases_eq a k) [
      | inl same ↦ subst (λ (ms : List ℕ). 0 < length ms) (sym (cond-true (a == k) (a ∷ rest) rest (eq-eqb a k same)))
          (omega arith)
      | inr apart ↦ subst (λ (ms : List ℕ). 0 < length ms) (sym
          (cond-false (a == k) (a ∷ rest) rest (ne_eqb a k apart)))
          (some_in_range (a + 1) n k (omega arith) (omega arith))
    ]

-- the numbers of the entries that went are those below the next one
gone_numbers : (gone : List (ℕ × ℕ)) (bank k : ℕ) → bank < no_bank → EntriesKeepNumbers gone →
    count (is_next bank k) gone ≡ length (filter (λ m. m == k) (range_with_len 0 (next_number gone bank)))
gone_numbers gone bank k lt kept = sym (numbered_is bank k gone)
    ∙ ap (λ (ms : List ℕ). length (filter (λ m. m == k) ms)) (kept bank lt)

pub one_of : (p : ℕ × ℕ → Bool) (x : ℕ × ℕ) → p x ≡ true → count p (x ∷ []) ≡ 1
one_of p x passes = ap length (cond-true (p x) (x ∷ []) [] passes)

-- ---- where an entry stands

pub record Found (p : ℕ × ℕ → Bool) (logs : List (List (ℕ × ℕ))) : Type 0 where
  pub log : ℕ
  pub place : ℕ
  pub entry : ℕ × ℕ
  pub there : entry_at (log_at logs log) place ≡ Some entry
  pub passes : p entry ≡ true

found_in : (p : ℕ × ℕ → Bool) (xs : List (ℕ × ℕ)) → 0 < count p xs → (place : ℕ) × (entry : ℕ × ℕ) ×
    (entry_at xs place ≡ Some entry) × (p entry ≡ true)
found_in p [] some_entry = absurd (omega arith)
found_in p (x ∷ xs) some_entry = elim (cases_Bool (p x)) [
  | inl passes ↦ (0, x, refl, passes)
  | inr fails ↦
      let rest = found_in p xs (subst (λ (ys : List (ℕ × ℕ)). 0 < length ys)
      (cond-false (p x) (x ∷ filter p xs) (filter p xs) fails) some_entry) in
      (suc rest.0, rest.1, rest.2, rest.3)
]

found : (p : ℕ × ℕ → Bool) (logs : List (List (ℕ × ℕ))) → 0 < count p (joined logs) → Found p logs
found p [] some_entry = absurd (omega arith)
found p (xs ∷ logs) some_entry = elim (cases_lt 0 (count p xs)) [
  | inl here ↦ let at = found_in p xs here in record {
    log = 0;
    place = at.0;
    entry = at.1;
    there = at.2;
    passes =
        at.3;
  }
  | inr nothing ↦
      let at = found p logs (omega (arith, count-append p xs (joined logs), nothing, some_entry)) in
      record { log = suc at.log; place = at.place; entry = at.entry; there = at.there; passes = at.passes }
]

pub entry_at-drop : (n : ℕ) (xs : List (ℕ × ℕ)) (k : ℕ) → entry_at (drop n xs) k ≡ entry_at xs (n + k)
entry_at-drop zero xs k = let e : k ≡ 0 + k = omega arith in ap (λ i. entry_at xs i) e
entry_at-drop (suc n) [] k = refl
entry_at-drop (suc n) (x ∷ xs) k = let e : suc (n + k) ≡ suc n + k = omega arith in
    entry_at-drop n xs k ∙ ap (λ i. entry_at (x ∷ xs) i) e

-- ---- the waits

module _ (skeletons : List (List (ℕ × ℕ))) (order places next : List ℕ) (at : IsAt skeletons order places next)
    (whole : BanksAreWhole skeletons) where
  -- A next entry that cannot go names a bank.
  pub names_bank : ((log : ℕ) → can_go skeletons places next log ≡ false) → (log : ℕ) (x : ℕ × ℕ) →
      next_entry skeletons places log ≡ Some x → x.0 < no_bank
  names_bank nothing log x is = not_due next x (sym (ap (carries_next next) is) ∙ nothing log)

  -- how many entries of the bank of a next entry there are
  pub more_of_bank : (log : ℕ) (x : ℕ × ℕ) → next_entry skeletons places log ≡ Some x
      → next_number at.gone x.0 < length (map (λ (e : ℕ × ℕ). e.1) (entries_of x.0 (joined skeletons)))
  more_of_bank log x is =
      let of_bank : ℕ × ℕ → Bool = λ e. e.0 == x.0 in
      let here = one_of of_bank x (eq-eqb x.0 x.0 refl) in
      let left = count-after of_bank at.left log x (left_first skeletons order places next at log x is) in
      let all = count-taken of_bank skeletons order at.gone at.left at.taken in
      omega (arith, here, left, all, length-map (entries_of x.0 (joined skeletons)) (λ (e : ℕ × ℕ). e.1))

  -- the bank's next number is still left
  still_left : (log : ℕ) (x : ℕ × ℕ) → x.0 < no_bank → next_entry skeletons places log ≡ Some x →
      Found (is_next x.0 (next_number at.gone x.0)) at.left
  still_left log x lt is =
      let n = next_number at.gone x.0 in
      let test = is_next x.0 n in
      let once : count test (joined skeletons) ≡ 1 = sym (times_is x.0 n (joined skeletons))
      ∙ whole x.0 lt n (more_of_bank log x is) in
      let none_gone : count test at.gone ≡ 0 = gone_numbers at.gone x.0 n lt at.kept
      ∙ none_in_range 0 n n (omega arith) in
      let all = count-taken test skeletons order at.gone at.left at.taken in
      found test at.left (omega (arith, once, none_gone, all))

  -- the log that holds it is the one that is waited for
  waits_there : (log : ℕ) (x : ℕ × ℕ) → x.0 < no_bank → next_entry skeletons places log ≡ Some x →
      (f : Found (is_next x.0 (next_number at.gone x.0)) at.left)
      → HeadsWait skeletons places next log f.log
  waits_there log x lt is f =
      let parts = and_parts (f.entry.0 == x.0) (f.entry.1 == next_number at.gone x.0) f.passes in
      let same : f.entry ≡ (x.0, slice_index next x.0) = ap₂ (λ a b. (a, b)) (eqb-true f.entry.0 x.0 parts.0)
      (eqb-true f.entry.1 (next_number at.gone x.0) parts.1 ∙ sym (at.counted x.0 lt)) in
      record {
        waiting = x;
        first = is;
        place = slice_index places f.log + f.place;
        not_gone = omega arith;
        holds = sym (entry_at-drop (slice_index places f.log) (log_at skeletons f.log) f.place)
            ∙ ap (λ (xs : List (ℕ × ℕ)). entry_at xs f.place) (sym (at.placed f.log)) ∙ f.there ∙ ap Some same;
      }

  pub all_wait : ((log : ℕ) → can_go skeletons places next log ≡ false) → AllWait skeletons places next
  all_wait nothing log x is = let lt = names_bank nothing log x is in let f = still_left log x lt is in
      (f.log, waits_there log x lt is f)

  -- A next entry that cannot go carries a number above its bank's next one.
  pub above : ((log : ℕ) → can_go skeletons places next log ≡ false) → (log : ℕ) (x : ℕ × ℕ) →
      next_entry skeletons places log ≡ Some x → slice_index next x.0 < x.1
  above nothing log x is = elim (cases_lt (slice_index next x.0) x.1) [
    | inl lt ↦ lt
    | inr le ↦ (elim (cases_eq x.1 (slice_index next x.0)) [
      | inl same ↦ absurd (false_true (can_go skeletons places next log) (nothing log)
          (carries_can_go next (next_entry skeletons places log) x is (λ _. same)))
      | inr apart ↦
          let test = is_next x.0 x.1 in
          let n = next_number at.gone x.0 in
          let is_bank = names_bank nothing log x is in
          let n_is = at.counted x.0 is_bank in
          let below : x.1 < n = omega (arith, le, apart, n_is) in
          let more = more_of_bank log x is in
          let once : count test (joined skeletons) ≡ 1 = sym (times_is x.0 x.1 (joined skeletons))
          ∙ whole x.0 is_bank x.1 (omega (arith, below, more)) in
          let some_gone : 0 < count test at.gone = subst (λ k. 0 < k)
          (sym (gone_numbers at.gone x.0 x.1 is_bank at.kept))
          (some_in_range 0 n x.1 (omega arith) (omega (arith, below))) in
          let here = one_of test x (and_from (x.0 == x.0) (x.1 == x.1) (eq-eqb x.0 x.0 refl) (eq-eqb x.1 x.1 refl)) in
          let left = count-after test at.left log x (left_first skeletons order places next at log x is) in
          let all = count-taken test skeletons order at.gone at.left at.taken in
          absurd (omega (arith, once, some_gone, here, left, all))
    ])
  ]
    where
      false_true : (b : Bool) → b ≡ false → b ≡ true → ⊥
      false_true b f t = cc
