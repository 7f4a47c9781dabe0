-- The merge, step by step: what the loop keeps true.
use Rattle.std.proofs.Common.{◌≡◌, ℕ, zero, suc, ◌+◌, ◌<◌, Bool, true, false, ◌==◌, inl, inr, List, [], ◌∷◌, ◌++◌}
use Rattle.std.proofs.Common.{map, filter, length}
use Rattle.std.proofs.Common.{drop, replicate, slice_index, Option, Some, None, refl, sym, ap, ◌∙◌, subst, eqb-true}
use Rattle.std.proofs.Common.{eq-eqb, arith}
use mathlib.Core.Path.{ap₂}
use Rattle.std.specs.List.{range_with_len, flat_map}
use Rattle.std.proofs.lemmas.Bool.{cases_Bool, cases_eq, cases_lt, cond-true, cond-false}
use Rattle.std.proofs.lemmas.List.{get_or-set_same, get_or-set_other, drop-drop, length-append, map-append}
use Rattle.std.proofs.lemmas.List.{append-nil, append_assoc, length-replicate, length-set}
use Rattle.std.proofs.lemmas.List.Elements.{filter-append}
use Rattle.lf_rules.specs.Address.{no_bank}
use Rattle.lf_rules.specs.Order.{log_at, after_next, entries_of, EntriesKeepNumbers}
use Rattle.lf_rules.specs.Ring.{entry_at}
use Rattle.lf_join.specs.Join.{skeleton_lists, TakesUpTo, next_number}
use Rattle.std.specs.Global.{Vec}
use Rattle.lf_join.proofs.Entries.{log_at-past}
use Rattle.lf_join.proofs.Due.{due_carries, due_from}
use Rattle.lf_join.specs.Heads.{next_entry, carries_next, can_go, Advances, IsAt, IsMerged}
use Rattle.lf_join.proofs.Orders.{after_same, after_other, bump, bump_same, bump_other, Goes, IsLeastRun, HasNone}
use Rattle.lf_join.proofs.Orders.{least_goes_first}
use Rattle.lf_join.proofs.Orders.{none_before, least_at_end, none_where_stuck, runs_from_order, least_order}

-- ---- the next entry of a log

pub first_left : (xs : List (ℕ × ℕ)) (n : ℕ) (x : ℕ × ℕ) → entry_at xs n ≡ Some x → drop n xs ≡ x ∷ drop 1 (drop n xs)
first_left [] n x is = cc
first_left (y ∷ xs) zero x is = let e : y ≡ x = cc in ap (λ (z : ℕ × ℕ). z ∷ xs) e
first_left (y ∷ xs) (suc n) x is = first_left xs n x is

pub none_left : (xs : List (ℕ × ℕ)) (n : ℕ) → entry_at xs n ≡ None → drop n xs ≡ []
none_left [] zero is = refl
none_left [] (suc n) is = refl
none_left (y ∷ xs) zero is = cc
none_left (y ∷ xs) (suc n) is = none_left xs n is

pub first_at : (xs : List (ℕ × ℕ)) (n : ℕ) (x : ℕ × ℕ) (rest : List (ℕ × ℕ)) → drop n xs ≡ x ∷ rest →
    entry_at xs n ≡ Some x
first_at [] zero x rest is = cc
first_at [] (suc n) x rest is = cc
first_at (y ∷ xs) zero x rest is = let e : y ≡ x = cc in ap Some e
first_at (y ∷ xs) (suc n) x rest is = first_at xs n x rest is

-- ---- one more entry

pub taken_more : {T : Type 0} (logs : List (List T)) (order : List ℕ) (gone : List T) (left : List (List T)) (log : ℕ)
    (x : T)
    → TakesUpTo logs order gone left → log_at left log ≡ x ∷ drop 1 (log_at left log) →
    TakesUpTo logs (order ++ log ∷ []) (gone ++ x ∷ []) (after_next left log)
taken_more logs [] [] left log x taken first =
    subst (λ ls. (log_at ls log ≡ x ∷ drop 1 (log_at ls log)) × (after_next ls log ≡ after_next left log)) (sym taken)
    (first, refl)
taken_more logs [] (y ∷ gone) left log x taken first = absurd taken
taken_more logs (m ∷ order) [] left log x taken first = absurd taken
taken_more logs (m ∷ order) (y ∷ gone) left log x taken first =
    (taken.0, taken_more (after_next logs m) order gone left log x taken.1 first)

range_more : (a n : ℕ) → range_with_len a n ++ (a + n) ∷ [] ≡ range_with_len a (n + 1)
range_more a zero = let e : a + 0 ≡ a = omega arith in let one : 0 + 1 ≡ suc 0 = omega arith in
    ap (λ (k : ℕ). k ∷ []) e ∙ ap (λ (k : ℕ). range_with_len a k) (sym one)
range_more a (suc n) =
    let e : a + suc n ≡ (a + 1) + n = omega arith in
    let one : suc n + 1 ≡ suc (n + 1) = omega arith in
    ap (λ (k : ℕ). a ∷ (range_with_len (a + 1) n ++ k ∷ [])) e ∙ ap (λ (ks : List ℕ). a ∷ ks) (range_more (a + 1) n)
    ∙ ap (λ (k : ℕ). range_with_len a k) (sym one)

module _ (gone : List (ℕ × ℕ)) (x : ℕ × ℕ) where
  abbrev more : List (ℕ × ℕ)
  more = gone ++ x ∷ []

  of_bank_more : (bank : ℕ) → x.0 ≡ bank → entries_of bank more ≡ entries_of bank gone ++ x ∷ []
  of_bank_more bank is = filter-append (λ (e : ℕ × ℕ). e.0 == bank) gone (x ∷ [])
      ∙ ap (λ (es : List (ℕ × ℕ)). entries_of bank gone ++ es)
      (cond-true (x.0 == bank) (x ∷ []) [] (eq-eqb x.0 bank is))

  of_bank_same : (bank : ℕ) → (x.0 == bank) ≡ false → entries_of bank more ≡ entries_of bank gone
  of_bank_same bank apart =
      filter-append (λ (e : ℕ × ℕ). e.0 == bank) gone (x ∷ [])
      ∙ ap (λ (es : List (ℕ × ℕ)). entries_of bank gone ++ es) (cond-false (x.0 == bank) (x ∷ []) [] apart)
      ∙ append-nil (entries_of bank gone)

  pub next_more : next_number more ≡ bump (next_number gone) x.0
  next_more = λ i bank. at bank i
    where
      at : (bank : ℕ) → next_number more bank ≡ bump (next_number gone) x.0 bank
      at bank = elim (cases_Bool (x.0 == bank)) [
        | inl e ↦ ap length (of_bank_more bank (eqb-true x.0 bank e)) ∙ length-append (entries_of bank gone) (x ∷ [])
            ∙ sym (cond-true (x.0 == bank) (next_number gone bank + 1) (next_number gone bank) e)
        | inr e ↦ ap length (of_bank_same bank e) ∙ sym (cond-false (x.0 == bank) (next_number gone bank + 1)
            (next_number gone bank) e)
      ]

  pub kept_more : (x.0 < no_bank → x.1 ≡ next_number gone x.0) → EntriesKeepNumbers gone → EntriesKeepNumbers more
  kept_more first kept bank lt = elim (cases_Bool (x.0 == bank)) [
    | inl e ↦
        let is = of_bank_more bank (eqb-true x.0 bank e) in
        let is_number : x.1 ≡ length (entries_of bank gone) =
        first (subst (λ k. k < no_bank) (sym (eqb-true x.0 bank e)) lt)
        ∙ ap (next_number gone) (eqb-true x.0 bank e) in
        ap (map (λ (e : ℕ × ℕ). e.1)) is ∙ map-append (λ (e : ℕ × ℕ). e.1) (entries_of bank gone) (x ∷ [])
        ∙ ap₂ (λ (ms ns : List ℕ). ms ++ ns) (kept bank lt)
        (ap (λ (k : ℕ). k ∷ []) (is_number ∙ sym (zero_add (length (entries_of bank gone)))))
        ∙ range_more 0 (length (entries_of bank gone))
        ∙ ap (λ (k : ℕ). range_with_len 0 k) (sym (ap length is ∙ length-append (entries_of bank gone) (x ∷ [])))
    | inr e ↦ subst (λ (es : List (ℕ × ℕ)). map (λ (e : ℕ × ℕ). e.1) es ≡ range_with_len 0 (length es))
        (sym (of_bank_same bank e)) (kept bank lt)
  ]
    where
      zero_add : (n : ℕ) → 0 + n ≡ n
      zero_add n = omega arith

-- ---- the loop

pub record Ongoing (skeletons : List (List (ℕ × ℕ))) (order places next : List ℕ) : Type 0 where
  pub is_at : IsAt skeletons order places next
  pub least : (rest : List ℕ) → IsLeastRun is_at.left (next_number is_at.gone) rest →
      IsLeastRun skeletons (λ _. 0) (order ++ rest)
  pub none : HasNone is_at.left (next_number is_at.gone) → HasNone skeletons (λ _. 0)
  pub places_len : length places ≡ 32
  pub next_len : length next ≡ 256

pub zeros : (n k : ℕ) → slice_index (replicate n 0) k ≡ 0
zeros zero k = refl
zeros (suc n) zero = refl
zeros (suc n) (suc k) = zeros n k

pub at_start : (skeletons : List (List (ℕ × ℕ))) → Ongoing skeletons [] (replicate 32 0) (replicate 256 0)
at_start skeletons = record {
  is_at = record {
    gone = [];
    left = skeletons;
    taken = refl;
    kept = λ bank lt. refl;
    placed = λ log. ap (λ (n : ℕ). drop n (log_at skeletons log)) (sym (zeros 32 log));
    counted = λ bank lt. zeros 256 bank;
  };
  least = λ rest is. is;
  none = λ none. none;
  places_len = length-replicate {A = ℕ} 32 0;
  next_len = length-replicate {A = ℕ} 256 0;
}

-- the next entry, as the code reads it and as what is left begins
pub can_go_carries : (next : List ℕ) (o : Option (ℕ × ℕ)) (x : ℕ × ℕ) → carries_next next o ≡ true → o ≡ Some x →
    x.0 < no_bank → x.1 ≡ slice_index next x.0
can_go_carries next o x can is = due_carries next x (subst (λ (p : Option (ℕ × ℕ)). carries_next next p ≡ true) is can)

pub carries_can_go : (next : List ℕ) (o : Option (ℕ × ℕ)) (x : ℕ × ℕ) → o ≡ Some x →
    (x.0 < no_bank → x.1 ≡ slice_index next x.0) → carries_next next o ≡ true
carries_can_go next o x is carries = ap (carries_next next) is ∙ due_from next x carries

module _ (skeletons : List (List (ℕ × ℕ))) (order places next : List ℕ) where
  pub left_first : (at : IsAt skeletons order places next) (log : ℕ) (x : ℕ × ℕ) →
      next_entry skeletons places log ≡ Some x → log_at at.left log ≡ x ∷ drop 1 (log_at at.left log)
  left_first at log x is = subst (λ (xs : List (ℕ × ℕ)). xs ≡ x ∷ drop 1 xs) (sym (at.placed log))
      (first_left (log_at skeletons log) (slice_index places log) x is)

  -- the code's test says whether the log can go
  abbrev pub goes_from_test : (at : IsAt skeletons order places next) (log : ℕ) (x : ℕ × ℕ) →
      can_go skeletons places next log ≡ true → next_entry skeletons places log ≡ Some x
      → Goes at.left (next_number at.gone) log
  goes_from_test at log x can is = record {
    entry = x;
    first = left_first at log x is;
    carries = λ lt. can_go_carries next (next_entry skeletons places log) x can is lt ∙ at.counted x.0 lt;
  }

  pub test_from_goes : (at : IsAt skeletons order places next) (log : ℕ) → Goes at.left (next_number at.gone) log →
      can_go skeletons places next log ≡ true
  test_from_goes at log goes =
      carries_can_go next (next_entry skeletons places log) goes.entry
      (first_at (log_at skeletons log) (slice_index places log) goes.entry (drop 1 (log_at at.left log))
      (sym (at.placed log) ∙ goes.first))
      (λ lt. goes.carries lt ∙ sym (at.counted goes.entry.0 lt))

  false_true : (b : Bool) → b ≡ false → b ≡ true → ⊥
  false_true b f t = cc

  -- The log's next entry goes.
  pub at_more : (at : IsAt skeletons order places next) → length places ≡ 32 → length next ≡ 256 → (log : ℕ)
      (new_places new_next : List ℕ) → log < 32 → can_go skeletons places next log ≡ true
      → Advances skeletons places next log new_places new_next → IsAt skeletons (order ++ log ∷ []) new_places new_next
  at_more at places_len next_len log new_places new_next within can a =
      record {
        gone = at.gone ++ x ∷ [];
        left = after_next at.left log;
        taken = taken_more skeletons order at.gone at.left log x at.taken goes.first;
        kept = kept_more at.gone x goes.carries at.kept;
        placed = placed;
        counted = λ bank lt. counted bank lt ∙ sym (ap (λ (f : ℕ → ℕ). f bank) (next_more at.gone x));
      }
    where
      x : ℕ × ℕ
      x = a.entry

      goes : Goes at.left (next_number at.gone) log
      goes = goes_from_test at log x can a.there

      placed : (n : ℕ) → log_at (after_next at.left log) n ≡ drop (slice_index new_places n) (log_at skeletons n)
      placed n = elim (cases_eq n log) [
        | inl same ↦ subst (λ k. log_at (after_next at.left log) k
            ≡ drop (slice_index new_places k) (log_at skeletons k)) (sym same)
            (after_same at.left log ∙ ap (drop 1) (at.placed log)
            ∙ drop-drop 1 (slice_index places log) (log_at skeletons log)
            ∙ ap (λ k. drop k (log_at skeletons log))
            (sym (ap (λ (ps : List ℕ). slice_index ps log) a.moved
            ∙ get_or-set_same places log (slice_index places log + 1) 0 (omega (arith, places_len, within)))))
        | inr apart ↦ after_other at.left log n apart ∙ at.placed n
            ∙ ap (λ k. drop k (log_at skeletons n)) (sym (ap (λ (ps : List ℕ). slice_index ps n) a.moved
            ∙ get_or-set_other places log n (slice_index places log + 1) 0 apart))
      ]

      counted : (bank : ℕ) → bank < no_bank → slice_index new_next bank ≡ bump (next_number at.gone) x.0 bank
      counted bank lt = elim (cases_eq bank x.0) [
        | inl same ↦ subst (λ k. slice_index new_next k ≡ bump (next_number at.gone) x.0 k) (sym same)
            (ap (λ (ns : List ℕ). slice_index ns x.0) a.counted
            ∙ get_or-set_same next x.0 (x.1 + 1) 0 (let is_bank = a.is_bank in omega (arith, next_len))
            ∙ ap (λ k. k + 1) (goes.carries (subst (λ k. k < no_bank) same lt))
            ∙ sym (bump_same (next_number at.gone) x.0 x.0 refl))
        | inr apart ↦ ap (λ (ns : List ℕ). slice_index ns bank) a.counted
            ∙ get_or-set_other next x.0 bank (x.1 + 1) 0 apart
            ∙ at.counted bank lt ∙ sym (bump_other (next_number at.gone) x.0 bank (λ e. apart (sym e)))
      ]

  pub one_more : (o : Ongoing skeletons order places next) (log : ℕ) (new_places new_next : List ℕ) → log < 32 →
      can_go skeletons places next log ≡ true
      → ((k : ℕ) → k < log → can_go skeletons places next k ≡ false) →
      Advances skeletons places next log new_places new_next →
      Ongoing skeletons (order ++ log ∷ []) new_places new_next
  unfolding at_more
  one_more o log new_places new_next within can none_below a =
      record {
        is_at = at_more o.is_at o.places_len o.next_len log new_places new_next within can a;
        least = λ rest is. subst (λ (os : List ℕ). IsLeastRun skeletons (λ _. 0) os)
            (sym (append_assoc order (log ∷ []) rest))
            (o.least (log ∷ rest) (least_goes_first o.is_at.left (next_number o.is_at.gone) log goes below rest
            (subst (λ (f : ℕ → ℕ). IsLeastRun (after_next o.is_at.left log) f rest) (next_more o.is_at.gone x) is)));
        none = λ none. o.none (none_before o.is_at.left (next_number o.is_at.gone) log goes
            (subst (λ (f : ℕ → ℕ). HasNone (after_next o.is_at.left log) f) (next_more o.is_at.gone x) none));
        places_len = ap length a.moved ∙ length-set places log (slice_index places log + 1) ∙ o.places_len;
        next_len = ap length a.counted ∙ length-set next x.0 (x.1 + 1) ∙ o.next_len;
      }
    where
      x : ℕ × ℕ
      x = a.entry

      goes : Goes o.is_at.left (next_number o.is_at.gone) log
      goes = goes_from_test o.is_at log x can a.there

      below : (k : ℕ) → k < log → Goes o.is_at.left (next_number o.is_at.gone) k → ⊥
      below k lt g = false_true (can_go skeletons places next k) (none_below k lt) (test_from_goes o.is_at k g)

  pub all_gone : Ongoing skeletons order places next → ((log : ℕ) → can_go skeletons places next log ≡ false) →
      IsMerged skeletons order places next
  all_gone o nothing = record {
    is_at = o.is_at;
    nothing_goes = nothing;
    whole = λ empty. least_order skeletons order (subst (λ (os : List ℕ). IsLeastRun skeletons (λ _. 0) os)
        (append-nil order)
        (o.least [] (least_at_end o.is_at.left (next_number o.is_at.gone)
        (λ log. o.is_at.placed log ∙ none_left (log_at skeletons log) (slice_index places log) (empty log)))));
    none = λ log entry is other order_is. o.none
        (none_where_stuck o.is_at.left (next_number o.is_at.gone)
        (λ k g. false_true (can_go skeletons places next k) (nothing k) (test_from_goes o.is_at k g)) log
        (λ nil. some_nil (sym nil ∙ left_first o.is_at log entry is)))
        other (runs_from_order skeletons other order_is);
  }
    where
      some_nil : {x : ℕ × ℕ} {xs : List (ℕ × ℕ)} → ◌≡◌ {A = List (ℕ × ℕ)} [] (x ∷ xs) → ⊥
      some_nil e = cc

-- ---- how many are left

abbrev pub count : (ℕ × ℕ → Bool) → List (ℕ × ℕ) → ℕ
count p xs = length (filter p xs)

abbrev pub joined : List (List (ℕ × ℕ)) → List (ℕ × ℕ)
joined logs = flat_map (λ xs. xs) logs

pub count-append : (p : ℕ × ℕ → Bool) (xs ys : List (ℕ × ℕ)) → count p (xs ++ ys) ≡ count p xs + count p ys
count-append p xs ys = ap length (filter-append p xs ys) ∙ length-append (filter p xs) (filter p ys)

pub count-after : (p : ℕ × ℕ → Bool) (logs : List (List (ℕ × ℕ))) (log : ℕ) (x : ℕ × ℕ) →
    log_at logs log ≡ x ∷ drop 1 (log_at logs log)
    → count p (joined logs) ≡ count p (x ∷ []) + count p (joined (after_next logs log))
count-after p [] log x first = cc
count-after p (xs ∷ logs) zero x first =
    let whole : count p (joined (xs ∷ logs)) ≡ count p ((x ∷ []) ++ (drop 1 xs ++ joined logs)) =
    ap (λ (ys : List (ℕ × ℕ)). count p (ys ++ joined logs)) first in
    whole ∙ count-append p (x ∷ []) (drop 1 xs ++ joined logs)
count-after p (xs ∷ logs) (suc log) x first =
    let rest = count-after p logs log x first in
    omega (arith, count-append p xs (joined logs), count-append p xs (joined (after_next logs log)), rest)

pub count-taken : (p : ℕ × ℕ → Bool) (logs : List (List (ℕ × ℕ))) (order : List ℕ) (gone : List (ℕ × ℕ))
    (left : List (List (ℕ × ℕ)))
    → TakesUpTo logs order gone left → count p (joined logs) ≡ count p gone + count p (joined left)
count-taken p logs [] [] left taken = let e = ap (λ (ls : List (List (ℕ × ℕ))). count p (joined ls)) taken in
    omega (arith, e)
count-taken p logs [] (x ∷ gone) left taken = absurd taken
count-taken p logs (log ∷ order) [] left taken = absurd taken
count-taken p logs (log ∷ order) (x ∷ gone) left taken =
    let rest = count-taken p (after_next logs log) order gone left taken.1 in
    let here = count-after p logs log x taken.0 in
    omega (arith, rest, here, count-append p (x ∷ []) gone)

abbrev pub any_entry : ℕ × ℕ → Bool
any_entry x = true

pub length-taken : (logs : List (List (ℕ × ℕ))) (order : List ℕ) (gone : List (ℕ × ℕ)) (left : List (List (ℕ × ℕ)))
    → TakesUpTo logs order gone left → length order ≡ count any_entry gone
length-taken logs [] [] left taken = refl
length-taken logs [] (x ∷ gone) left taken = absurd taken
length-taken logs (log ∷ order) [] left taken = absurd taken
length-taken logs (log ∷ order) (x ∷ gone) left taken = ap suc
    (length-taken (after_next logs log) order gone left taken.1)

-- as long as a log can go, the order is shorter than all logs
pub is_shorter : (skeletons : List (List (ℕ × ℕ))) (order places next : List ℕ) (log : ℕ) (x : ℕ × ℕ) →
    IsAt skeletons order places next
    → next_entry skeletons places log ≡ Some x → length order < count any_entry (joined skeletons)
is_shorter skeletons order places next log x at is =
    let left = count-after any_entry at.left log x (left_first skeletons order places next at log x is) in
    let all = count-taken any_entry skeletons order at.gone at.left at.taken in
    let len = length-taken skeletons order at.gone at.left at.taken in
    let one : count any_entry (x ∷ []) ≡ 1 = refl in
    omega (arith, left, all, len, one)

-- A log that is not there cannot go.
pub past_all : (skeletons : List (Vec (ℕ × ℕ))) (places next : List ℕ) →
    ((log : ℕ) → log < length skeletons → can_go (skeleton_lists skeletons) places next log ≡ false)
    → (log : ℕ) → can_go (skeleton_lists skeletons) places next log ≡ false
past_all skeletons places next within log = elim (cases_lt log (length skeletons)) [
  | inl lt ↦ within log lt
  | inr past ↦ ap (λ (xs : List (ℕ × ℕ)). carries_next next (entry_at xs (slice_index places log)))
      (log_at-past skeletons log past)
]
