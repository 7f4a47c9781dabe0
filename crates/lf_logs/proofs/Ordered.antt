-- Whole numbers have one order: the records that carry 0, then those that carry 1, and so on.
use Rattle.std.proofs.Common.{◌≡◌, ℕ, ◌+◌, ◌<◌, zero, suc, Bool, true, false, cond, not, eqb, ltb, List, [], ◌∷◌}
use Rattle.std.proofs.Common.{◌++◌, map}
use Rattle.std.proofs.Common.{length, get_or, Option, Some, None, IsSome, refl, sym, ap, ◌∙◌, subst, ⊎_elim, arith}
use Rattle.std.proofs.Common.{add-one}
use Rattle.std.specs.List.{filter, flat_map, filter_map, count_by, range_with_len, cons_option}
use Rattle.std.specs.Option.{option_to_list}
use Rattle.std.specs.List.Sorted.{IsPermutation}
use Rattle.std.proofs.lemmas.List.{append-nil, map-append, length-map, map-id}
use Rattle.std.proofs.lemmas.List.Concat.{flat_map-append}
use Rattle.std.proofs.lemmas.List.FromFn.{length-range_with_len, map-range_with_len_more}
use Rattle.std.proofs.lemmas.List.Sorted.{IsPermutation-refl, IsPermutation-trans, IsPermutation-sym}
use Rattle.std.proofs.lemmas.List.Sorted.{IsPermutation-append_left, IsPermutation-filter_both}
use Rattle.std.proofs.lemmas.List.Sums.{length-filter}
use Rattle.std.proofs.lemmas.Bool.{cases_order, cases_Bool, cond-true, cond-false, lt-ltb, le-ltb, ltb-false, eq-eqb}
use Rattle.std.proofs.lemmas.Bool.{ne_eqb}
use Rattle.lf_rules.specs.declared.event.Record.{Record}
use Rattle.lf_rules.specs.Run.{of_bank, names}
use Rattle.lf_rules.specs.Numbers.{all_records, numbers_of, bank_numbers, times}
use Rattle.lf_logs.specs.declared.order.Place.{Place}
use Rattle.lf_logs.specs.Places.{Names, record_at, records_at, ArePlacesOfBank}
use Rattle.lf_logs.proofs.Counting.{counts, count_by-cons, once_below, filter-all, times-cons}
use Rattle.lf_logs.proofs.Members.{IsIn-get, IsIn-joined, IsIn-filter, only_one}

-- ---- the records of each number

abbrev pub with_number : ℕ → List Record → List Record
with_number k rs = filter (λ r. eqb r.number k) rs

abbrev below : ℕ → List Record → List Record
below n rs = filter (λ r. ltb r.number n) rs

-- the records that carry 0 to n - 1, in the order of their numbers
abbrev pub by_number : ℕ → List Record → List Record
by_number n rs = flat_map (λ k. with_number k rs) (range_with_len 0 n)

filter-filter : {X : Type 0} (p q r : X → Bool) → ((x : X) → r x ≡ cond (p x) (q x) false) → (xs : List X) →
    filter q (filter p xs) ≡ filter r xs
filter-filter p q r each [] = refl
filter-filter p q r each (x ∷ xs) = ⊎_elim
    (λ (e : p x ≡ true).
    let same : r x ≡ q x = each x ∙ cond-true (p x) (q x) false e in
    ap (filter q) (cond-true (p x) (x ∷ filter p xs) (filter p xs) e)
    ∙ ap (λ ys. cond (q x) (x ∷ ys) ys) (filter-filter p q r each xs)
    ∙ ap (λ b. cond b (x ∷ filter r xs) (filter r xs)) (sym same))
    (λ (e : p x ≡ false).
    let leaves : r x ≡ false = each x ∙ cond-false (p x) (q x) false e in
    ap (filter q) (cond-false (p x) (x ∷ filter p xs) (filter p xs) e)
    ∙ filter-filter p q r each xs
    ∙ sym (cond-false (r x) (x ∷ filter r xs) (filter r xs) leaves))
    (cases_Bool (p x))

range-push : (n : ℕ) → range_with_len 0 (n + 1) ≡ range_with_len 0 n ++ n ∷ []
range-push n =
    sym (map-id (range_with_len 0 (n + 1)))
    ∙ map-range_with_len_more (λ k. k) 0 n n (omega arith)
    ∙ ap (λ ks. ks ++ n ∷ []) (map-id (range_with_len 0 n))

by_number-push : (n : ℕ) (rs : List Record) → by_number (n + 1) rs ≡ by_number n rs ++ with_number n rs
by_number-push n rs =
    ap (flat_map (λ k. with_number k rs)) (range-push n)
    ∙ flat_map-append (λ k. with_number k rs) (range_with_len 0 n) (n ∷ [])
    ∙ ap (λ ys. by_number n rs ++ ys) (append-nil (with_number n rs))

-- below n + 1 is below n or n
still_below : (n m : ℕ) → ltb m n ≡ cond (ltb m (n + 1)) (ltb m n) false
still_below n m = ⊎_elim
    (λ (e : ltb m (n + 1) ≡ true). sym (cond-true (ltb m (n + 1)) (ltb m n) false e))
    (λ (e : ltb m (n + 1) ≡ false). le-ltb m n (omega (arith, ltb-false m (n + 1) e))
    ∙ sym (cond-false (ltb m (n + 1)) (ltb m n) false e))
    (cases_Bool (ltb m (n + 1)))

no_more_below : (n m : ℕ) → eqb m n ≡ cond (ltb m (n + 1)) (not (ltb m n)) false
no_more_below n m = ⊎_elim
    (λ (e : m ≡ n). rw (lt-ltb m (n + 1) (omega arith), le-ltb m n (omega arith), eq-eqb m n e) refl)
    (λ s. ⊎_elim
    (λ (l : m < n). rw (lt-ltb m (n + 1) (omega arith), lt-ltb m n l, ne_eqb m n (omega arith)) refl)
    (λ (g : n < m). rw (le-ltb m (n + 1) (omega arith), ne_eqb m n (omega arith)) refl)
    s)
    (cases_order m n)

below-push : (n : ℕ) (rs : List Record) → IsPermutation (below (n + 1) rs) (below n rs ++ with_number n rs)
below-push n rs =
    let low : Record → Bool = λ r. ltb r.number n in
    let high : Record → Bool = λ r. not (ltb r.number n) in
    let both = IsPermutation-filter_both low high (λ r. refl) (below (n + 1) rs) in
    let lows : filter low (below (n + 1) rs) ≡ below n rs =
    filter-filter (λ r. ltb r.number (n + 1)) low low (λ r. still_below n r.number) rs in
    let highs : filter high (below (n + 1) rs) ≡ with_number n rs =
    filter-filter (λ r. ltb r.number (n + 1)) high (λ r. eqb r.number n) (λ r. no_more_below n r.number) rs in
    subst (λ ys. IsPermutation (below (n + 1) rs) ys) (ap (λ ys. ys ++ filter high (below (n + 1) rs)) lows
    ∙ ap (λ ys. below n rs ++ ys) highs) both

below-zero : (rs : List Record) → below 0 rs ≡ []
below-zero [] = refl
below-zero (r ∷ rs) = cond-false (ltb r.number 0) (r ∷ below 0 rs) (below 0 rs) (le-ltb r.number 0 (omega arith))
    ∙ below-zero rs

below_is : (n : ℕ) (rs : List Record) → IsPermutation (below n rs) (by_number n rs)
below_is zero rs = subst (λ ys. IsPermutation ys []) (sym (below-zero rs)) (IsPermutation-refl [])
below_is (suc n) rs =
    subst (λ m. IsPermutation (below m rs) (by_number m rs)) (add-one n)
    (IsPermutation-trans _ _ _ (below-push n rs)
    (subst (λ ys. IsPermutation (below n rs ++ with_number n rs) ys) (sym (by_number-push n rs))
    (IsPermutation-append_left (with_number n rs) _ _ (below_is n rs))))

-- ---- whole numbers

pub times_is : (k : ℕ) (rs : List Record) → times k (numbers_of rs) ≡ length (with_number k rs)
times_is k [] = refl
times_is k (r ∷ rs) =
    let carries : Record → Bool = λ r. eqb r.number k in
    times-cons k r.number (numbers_of rs)
    ∙ ap (λ n. counts (eqb r.number k) + n) (times_is k rs ∙ length-filter carries rs)
    ∙ sym (count_by-cons carries r rs)
    ∙ sym (length-filter carries (r ∷ rs))

count_below : (n : ℕ) (rs : List Record) → count_by (λ m. ltb m n) (numbers_of rs) ≡ count_by (λ r. ltb r.number n) rs
count_below n [] = refl
count_below n (r ∷ rs) =
    count_by-cons (λ m. ltb m n) r.number (numbers_of rs)
    ∙ ap (λ c. counts (ltb r.number n) + c) (count_below n rs)
    ∙ sym (count_by-cons (λ r. ltb r.number n) r rs)

-- where each number below the count of the records occurs once, there are no others
pub whole_by_number : (rs : List Record) → ((k : ℕ) → k < length rs → times k (numbers_of rs) ≡ 1) →
    IsPermutation rs (by_number (length rs) rs)
whole_by_number rs whole =
    let all : below (length rs) rs ≡ rs = filter-all (λ r. ltb r.number (length rs)) rs
    (sym (count_below (length rs) rs) ∙ once_below (length rs) (numbers_of rs) whole) in
    subst (λ ys. IsPermutation ys (by_number (length rs) rs)) all (below_is (length rs) rs)

-- ---- the order of places

-- the one record of a number is the one at its place
one_of : (logs : List (List Record)) (bank k : ℕ) (place : Place) → Names logs bank k place →
    times k (bank_numbers logs bank) ≡ 1 →
    (item : Record) × (record_at logs place ≡ Some item) × (item.number ≡ k) ×
    (with_number k (of_bank bank (all_records logs)) ≡ item ∷ [])
one_of logs bank k place named once =
    let item = named.item in
    let among = IsIn-joined item logs place.log (IsIn-get (get_or logs place.log []) place.at item named.there) in
    let of_its_bank = IsIn-filter (names bank) item (all_records logs) among (eq-eqb item.bank bank named.of_bank) in
    let of_its_number = IsIn-filter (λ r. eqb r.number k) item (of_bank bank (all_records logs)) of_its_bank
    (eq-eqb item.number k named.numbered) in (
      item,
      named.there,
      named.numbered,
      only_one item (with_number k (of_bank bank (all_records logs)))
          (sym (times_is k (of_bank bank (all_records logs))) ∙ once) of_its_number,
    )

-- where each record of a number is one, their numbers are 0, 1, 2, ..
numbers_in_order : (n : ℕ) (rs : List Record) → ((k : ℕ) → k < n → map (λ r. r.number) (with_number k rs) ≡ k ∷ []) →
    numbers_of (by_number n rs) ≡ range_with_len 0 n
numbers_in_order zero rs each = refl
numbers_in_order (suc n) rs each =
    ap (λ m. numbers_of (by_number m rs)) (sym (add-one n))
    ∙ ap numbers_of (by_number-push n rs)
    ∙ map-append (λ r. r.number) (by_number n rs) (with_number n rs)
    ∙ ap (λ ns. ns ++ map (λ r. r.number) (with_number n rs)) (numbers_in_order n rs (λ k h. each k (omega arith)))
    ∙ ap (λ ns. range_with_len 0 n ++ ns) (each n (omega arith))
    ∙ sym (range-push n)
    ∙ ap (range_with_len 0) (add-one n)

cons_option-append : {X : Type 0} (o : Option X) (xs : List X) → cons_option o xs ≡ option_to_list o ++ xs
cons_option-append None xs = refl
cons_option-append (Some x) xs = refl

in_turn : (f : Place → Option Record) (g : ℕ → List Record) (a : ℕ) (places : List Place) →
    ((k : ℕ) (d : Place) → k < length places → option_to_list (f (get_or places k d)) ≡ g (a + k)) →
    filter_map f places ≡ flat_map g (range_with_len a (length places))
in_turn f g a [] each = refl
in_turn f g a (place ∷ places) each =
    let at : a + 0 ≡ a = omega arith in
    cons_option-append (f place) (filter_map f places)
    ∙ ap (λ ys. ys ++ filter_map f places) (each 0 place (omega arith) ∙ ap g at)
    ∙ ap (λ ys. g a ++ ys) (in_turn f g (a + 1) places (λ k d h. let same : a + suc k ≡ a + 1 + k = omega arith in
    each (suc k) d (omega arith) ∙ ap g same))

pub ArePlacesOfBank-from : (logs : List (List Record)) (bank : ℕ) (places : List Place) →
    length places ≡ length (of_bank bank (all_records logs)) →
    ((k : ℕ) → k < length places → times k (bank_numbers logs bank) ≡ 1) →
    ((k : ℕ) (d : Place) → k < length places → Names logs bank k (get_or places k d)) → ArePlacesOfBank logs bank places
ArePlacesOfBank-from logs bank places long once named =
    let rs = of_bank bank (all_records logs) in
    let one = λ (k : ℕ) (d : Place) (h : k < length places). one_of logs bank k (get_or places k d) (named k d h)
    (once k h) in
    let found : records_at logs places ≡ by_number (length places) rs =
    in_turn (record_at logs) (λ k. with_number k rs) 0 places
    (λ k d h. let w = one k d h in let same : 0 + k ≡ k = omega arith in
    ap option_to_list w.1 ∙ sym w.3 ∙ ap (λ n. with_number n rs) (sym same)) in
    let ordered : numbers_of (by_number (length places) rs) ≡ range_with_len 0 (length places) =
    numbers_in_order (length places) rs (λ k h. let w = one k nowhere h in
    ap (map (λ r. r.number)) w.3 ∙ ap (λ n. n ∷ []) w.2) in
    let numbered : numbers_of (records_at logs places) ≡ range_with_len 0 (length places) =
    ap numbers_of found ∙ ordered in
    let as_many : length (records_at logs places) ≡ length places =
    sym (length-map (records_at logs places) (λ r. r.number)) ∙ ap length numbered
    ∙ length-range_with_len 0 (length places) in
    let same : IsPermutation rs (records_at logs places) =
    subst (λ ys. IsPermutation rs ys) (ap (λ n. by_number n rs) (sym long) ∙ sym found)
    (whole_by_number rs (λ k h. once k (omega arith))) in
    record {
      named = λ k d h. let w = one k d h in subst (λ o. IsSome o) (sym w.1) refl;
      numbered = record {
        numbers = numbered ∙ ap (range_with_len 0) (sym as_many);
        same = IsPermutation-sym rs (records_at logs places) same;
      };
    }
  where
    nowhere : Place
    nowhere = record { log = 0; at = 0 }
