-- The records that are put in and given out in the order of their numbers, one more at a time.
use Rattle.std.proofs.Common.{◌≡◌, ℕ, ◌+◌, ◌<◌, ◌≤◌, ◌^◌, zero, suc, true, false, eqb, nat_lt, nat_le}
use Rattle.std.proofs.Common.{◌||◌, List, [], ◌∷◌}
use Rattle.std.proofs.Common.{◌++◌, length, Option, Some, None, is_some, refl, sym, ap, ◌∙◌, subst, ◌⊎◌, inl, inr}
use Rattle.std.proofs.Common.{⊎_elim, arith}
use Rattle.std.specs.List.{AllByRecursion, slice_get}
use Rattle.std.proofs.lemmas.Bool.Decides.{nat_tests}
use Rattle.std.proofs.lemmas.Bool.{cases_eq, cases_Bool, cases_order, cond-true, cond-false, eq-eqb, ne_eqb, lt-ltb}
use Rattle.std.proofs.lemmas.Bool.{le-ltb}
use Rattle.std.proofs.lemmas.List.{length-append}
use Rattle.std.specs.BTreeMap.{is_at}
use Rattle.std.specs.Ordering.{nat_cmp}
use Rattle.lf_rules.specs.declared.event.Record.{Record}
use Rattle.lf_rules.specs.Numbers.{numbers_of, times, IsMissing, IsDouble, IsWhole, IsFineBelow}
use Rattle.lf_logs.specs.Reordering.{Reordering, first_with, early_at, has_come, least_double}
use Rattle.lf_logs.specs.Reordering.{IsLeastDouble, HasOrdered}
use Rattle.lf_logs.proofs.Counting.{one_if, none_if, times-cons, missing_at}
use Rattle.lf_logs.proofs.Tallying.{times_push}

pub below_or : (a b : ℕ) → (a < b) ⊎ (b ≤ a)
below_or a b = ⊎_elim (λ (e : a ≡ b). inr (omega arith)) (λ s. ⊎_elim (λ (l : a < b). inl l)
    (λ (g : b < a). inr (omega arith)) s) (cases_order a b)

-- ---- the first record with a number

pub none_or_some : {X : Type 0} (o : Option X) → (o ≡ None) ⊎ ((x : X) × (o ≡ Some x))
none_or_some None = inl refl
none_or_some (Some x) = inr (x, refl)

pub first_with-here : (k : ℕ) (r : Record) (rs : List Record) → r.number ≡ k → first_with k (r ∷ rs) ≡ Some r
first_with-here k r rs e = cond-true (eqb r.number k) (Some r) (first_with k rs) (eq-eqb r.number k e)

pub first_with-there : (k : ℕ) (r : Record) (rs : List Record) → (r.number ≡ k → ⊥) →
    first_with k (r ∷ rs) ≡ first_with k rs
first_with-there k r rs n = cond-false (eqb r.number k) (Some r) (first_with k rs) (ne_eqb r.number k n)

-- it carries the number
pub first_with-number : (k : ℕ) (rs : List Record) (r : Record) → first_with k rs ≡ Some r → r.number ≡ k
first_with-number k [] r e = absurd (cc)
first_with-number k (x ∷ rs) r e = ⊎_elim
    (λ (h : x.number ≡ k).
    let same : Some x ≡ Some r = sym (first_with-here k x rs h) ∙ e in
    let is : x ≡ r = cc in
    ap (λ (y : Record). y.number) (sym is) ∙ h)
    (λ (n : x.number ≡ k → ⊥). first_with-number k rs r (sym (first_with-there k x rs n) ∙ e))
    (cases_eq x.number k)

pub first_with-push_kept : (k : ℕ) (rs : List Record) (x r : Record) → first_with k rs ≡ Some x →
    first_with k (rs ++ r ∷ []) ≡ Some x
first_with-push_kept k [] x r e = absurd (cc)
first_with-push_kept k (y ∷ rs) x r e = ⊎_elim
    (λ (h : y.number ≡ k). first_with-here k y (rs ++ r ∷ []) h ∙ sym (first_with-here k y rs h) ∙ e)
    (λ (n : y.number ≡ k → ⊥). first_with-there k y (rs ++ r ∷ []) n
    ∙ first_with-push_kept k rs x r (sym (first_with-there k y rs n) ∙ e))
    (cases_eq y.number k)

pub first_with-push_other : (k : ℕ) (rs : List Record) (r : Record) → (r.number ≡ k → ⊥) →
    first_with k (rs ++ r ∷ []) ≡ first_with k rs
first_with-push_other k [] r other = first_with-there k r [] other
first_with-push_other k (y ∷ rs) r other = ⊎_elim
    (λ (h : y.number ≡ k). first_with-here k y (rs ++ r ∷ []) h ∙ sym (first_with-here k y rs h))
    (λ (n : y.number ≡ k → ⊥). first_with-there k y (rs ++ r ∷ []) n ∙ first_with-push_other k rs r other
    ∙ sym (first_with-there k y rs n))
    (cases_eq y.number k)

pub first_with-push_new : (k : ℕ) (rs : List Record) (r : Record) → r.number ≡ k → first_with k rs ≡ None →
    first_with k (rs ++ r ∷ []) ≡ Some r
first_with-push_new k [] r own e = first_with-here k r [] own
first_with-push_new k (y ∷ rs) r own e = ⊎_elim
    (λ (h : y.number ≡ k). let no : Some y ≡ None = sym (first_with-here k y rs h) ∙ e in absurd (cc))
    (λ (n : y.number ≡ k → ⊥). first_with-there k y (rs ++ r ∷ []) n
    ∙ first_with-push_new k rs r own (sym (first_with-there k y rs n) ∙ e))
    (cases_eq y.number k)

-- a record that came before its number came again is still the first
pub first_with-push_same : (k : ℕ) (rs : List Record) (r : Record) → is_some (first_with r.number rs) ≡ true →
    first_with k (rs ++ r ∷ []) ≡ first_with k rs
first_with-push_same k rs r there = ⊎_elim
    (λ (own : r.number ≡ k).
    ⊎_elim
    (λ (none : first_with k rs ≡ None).
    let no : is_some (first_with r.number rs) ≡ false = ap (λ n. is_some (first_with n rs)) own ∙ ap is_some none in
    absurd (cc))
    (λ (some : (x : Record) × (first_with k rs ≡ Some x)). first_with-push_kept k rs some.0 r some.1 ∙ sym some.1)
    (none_or_some (first_with k rs)))
    (λ (other : r.number ≡ k → ⊥). first_with-push_other k rs r other)
    (cases_eq r.number k)

-- ---- and how often it occurs

pub times-none : (k : ℕ) (rs : List Record) → first_with k rs ≡ None → times k (numbers_of rs) ≡ 0
times-none k [] e = refl
times-none k (r ∷ rs) e = ⊎_elim
    (λ (h : r.number ≡ k). let no : Some r ≡ None = sym (first_with-here k r rs h) ∙ e in absurd (cc))
    (λ (n : r.number ≡ k → ⊥).
    omega (
      arith,
      times-cons k r.number (numbers_of rs),
      none_if (eqb r.number k) (ne_eqb r.number k n),
      times-none k
          rs (sym (first_with-there k r rs n) ∙ e),
    ))
    (cases_eq r.number k)

pub times-some : (k : ℕ) (rs : List Record) (x : Record) → first_with k rs ≡ Some x → 0 < times k (numbers_of rs)
times-some k [] x e = absurd (cc)
times-some k (r ∷ rs) x e = ⊎_elim
    (λ (h : r.number ≡ k). omega (
      arith,
      times-cons k r.number (numbers_of rs),
      one_if (eqb r.number k)
          (eq-eqb r.number k h),
    ))
    (λ (n : r.number ≡ k → ⊥). omega (
      arith,
      times-cons k r.number (numbers_of rs),
      times-some k rs x
          (sym (first_with-there k r rs n) ∙ e),
    ))
    (cases_eq r.number k)

pub times-is_some : (k : ℕ) (rs : List Record) → is_some (first_with k rs) ≡ true → 0 < times k (numbers_of rs)
times-is_some k rs there = ⊎_elim
    (λ (none : first_with k rs ≡ None). let no : is_some (first_with k rs) ≡ false = ap is_some none in absurd (cc))
    (λ (some : (x : Record) × (first_with k rs ≡ Some x)). times-some k rs some.0 some.1)
    (none_or_some (first_with k rs))

times_own : (rs : List Record) (r : Record) → times r.number (numbers_of (rs ++ r ∷ []))
    ≡ times r.number (numbers_of rs) + 1
times_own rs r = omega (arith, times_push r.number rs r, one_if (eqb r.number r.number) (eq-eqb r.number r.number refl))

times_other : (k : ℕ) (rs : List Record) (r : Record) → (r.number ≡ k → ⊥) →
    times k (numbers_of (rs ++ r ∷ [])) ≡ times k (numbers_of rs)
times_other k rs r n = omega (arith, times_push k rs r, none_if (eqb r.number k) (ne_eqb r.number k n))

-- ---- the least double number

same_doubles : (rs : List Record) (r : Record) → first_with r.number rs ≡ None → (k : ℕ) →
    IsDouble (numbers_of (rs ++ r ∷ [])) k → IsDouble (numbers_of rs) k
same_doubles rs r none k double = ⊎_elim
    (λ (own : r.number ≡ k).
    let one : times k (numbers_of (rs ++ r ∷ [])) ≡ times k (numbers_of rs) + 1 =
    subst (λ n. times n (numbers_of (rs ++ r ∷ [])) ≡ times n (numbers_of rs) + 1) own (times_own rs r) in
    let zero_before : times k (numbers_of rs) ≡ 0 = subst (λ n. times n (numbers_of rs) ≡ 0) own
    (times-none r.number rs none) in
    absurd (omega (arith, one, zero_before, double)))
    (λ (other : r.number ≡ k → ⊥). omega (arith, times_other k rs r other, double))
    (cases_eq r.number k)

more_doubles : (rs : List Record) (r : Record) (k : ℕ) → IsDouble (numbers_of rs) k →
    IsDouble (numbers_of (rs ++ r ∷ [])) k
more_doubles rs r k double = omega (arith, times_push k rs r, double)

pub double-kept : (rs : List Record) (r : Record) (d : Option ℕ) → first_with r.number rs ≡ None →
    IsLeastDouble (numbers_of rs) d → IsLeastDouble (numbers_of (rs ++ r ∷ [])) d
double-kept rs r None none was = λ k double. was k (same_doubles rs r none k double)
double-kept rs r (Some least) none was = (
  more_doubles rs r least was.0,
  λ k h double. was.1 k h
      (same_doubles rs r none k double),
)

-- a number that came before is double now
pub double-more : (rs : List Record) (r : Record) (d : Option ℕ) → is_some (first_with r.number rs) ≡ true →
    IsLeastDouble (numbers_of rs) d
    → IsLeastDouble (numbers_of (rs ++ r ∷ [])) (least_double d r.number)
double-more rs r d there was = go d was
  where
    here : IsDouble (numbers_of (rs ++ r ∷ [])) r.number
    here = omega (arith, times_own rs r, times-is_some r.number rs there)

    others : (k : ℕ) → k < r.number → IsDouble (numbers_of (rs ++ r ∷ [])) k → IsDouble (numbers_of rs) k
    others k h double = omega (arith, times_other k rs r (λ e. omega arith), double)

    go : (d : Option ℕ) → IsLeastDouble (numbers_of rs) d →
        IsLeastDouble (numbers_of (rs ++ r ∷ [])) (least_double d r.number)
    go None was = (here, λ k h double. was k (others k h double))
    go (Some least) was = ⊎_elim
        (λ (e : nat_le least r.number ≡ true).
        let below : least ≤ r.number = grind (arith, nat_tests) in
        subst (IsLeastDouble (numbers_of (rs ++ r ∷ []))) (sym
        (cond-true (nat_le least r.number) (Some least) (Some r.number) e))
        (more_doubles rs r least was.0, λ k h double. was.1 k h (others k (omega arith) double)))
        (λ (e : nat_le least r.number ≡ false).
        let above : r.number < least = grind (arith, nat_tests) in
        subst (IsLeastDouble (numbers_of (rs ++ r ∷ []))) (sym
        (cond-false (nat_le least r.number) (Some least) (Some r.number) e))
        (here, λ k h double. was.1 k (omega arith) (others k h double)))
        (cases_Bool (nat_le least r.number))

-- ---- one record more is put in

small-push : (rs : List Record) (r : Record) → AllByRecursion (λ r. r.number < 2 ^ 32) rs → r.number < 2 ^ 32 →
    AllByRecursion (λ r. r.number < 2 ^ 32) (rs ++ r ∷ [])
small-push [] r all h = (h, tt)
small-push (x ∷ rs) r all h = (all.0, small-push rs r all.1 h)

slice_get-some : {X : Type 0} (xs : List X) (k : ℕ) → k < length xs → is_some (slice_get xs k) ≡ true
slice_get-some [] k h = absurd (omega arith)
slice_get-some (x ∷ xs) zero h = refl
slice_get-some (x ∷ xs) (suc k) h = slice_get-some xs k (omega arith)

slice_get-last : (xs : List Record) (x : Record) → slice_get (xs ++ x ∷ []) (length xs) ≡ Some x
slice_get-last [] x = refl
slice_get-last (y ∷ xs) x = slice_get-last xs x

slice_get-front : (xs : List Record) (x : Record) (k : ℕ) → k < length xs →
    slice_get (xs ++ x ∷ []) k ≡ slice_get xs k
slice_get-front [] x k h = absurd (omega arith)
slice_get-front (y ∷ xs) x zero h = refl
slice_get-front (y ∷ xs) x (suc k) h = slice_get-front xs x k (omega arith)

module _ (o : Reordering) (put gave : List Record) (has : HasOrdered o put gave) where
  pub given-there : (k : ℕ) → k < length gave → is_some (first_with k put) ≡ true
  given-there k h = sym (ap is_some (has.given k h)) ∙ slice_get-some gave k h

  -- a number has come where a record with it was put in
  pub come : (k : ℕ) → has_come o k ≡ is_some (first_with k put)
  come k = ⊎_elim
      (λ (h : k < o.next).
      let low : nat_lt k o.next ≡ true = lt-ltb k o.next h in
      ap (λ b. b || is_some (early_at o k)) low ∙ sym (given-there k (omega (arith, has.next))))
      (λ (h : o.next ≤ k).
      let high : nat_lt k o.next ≡ false = le-ltb k o.next h in
      ap (λ b. b || is_some (early_at o k)) high ∙ ap is_some (has.waits k (omega (arith, has.next))))
      (below_or k o.next)

  pub HasOrdered-double : (r : Record) (after : Reordering) → r.number < 2 ^ 32 → has_come o r.number ≡ true →
      after ≡ record o { double = least_double o.double r.number }
      → HasOrdered after (put ++ r ∷ []) gave
  HasOrdered-double r after small here is =
      let there : is_some (first_with r.number put) ≡ true = sym (come r.number) ∙ here in
      subst (λ a. HasOrdered a (put ++ r ∷ []) gave) (sym is) (record {
        small = small-push put r has.small small;
        next = has.next;
        given = λ k h. has.given k h ∙ sym (first_with-push_same k put r there);
        waits = λ k h. has.waits k h ∙ sym (first_with-push_same k put r there);
        double = double-more put r o.double there has.double;
      })

  -- a record with a new number waits
  pub HasOrdered-waits : (r : Record) (after : Reordering) → r.number < 2 ^ 32 → has_come o r.number ≡ false →
      after.next ≡ o.next → after.double ≡ o.double
      → early_at after r.number ≡ Some r → ((k : ℕ) → (k ≡ r.number → ⊥) → early_at after k ≡ early_at o k)
      → HasOrdered after (put ++ r ∷ []) gave
  HasOrdered-waits r after small none next double here others =
      let absent : first_with r.number put ≡ None =
      ⊎_elim (λ (e : first_with r.number put ≡ None). e)
      (λ (some : (x : Record) × (first_with r.number put ≡ Some x)).
      let there : has_come o r.number ≡ true = come r.number ∙ ap is_some some.1 in absurd (cc))
      (none_or_some (first_with r.number put)) in
      record {
        small = small-push put r has.small small;
        next = next ∙ has.next;
        given = λ k h. has.given k h ∙ sym (first_with-push_other k put r (λ e.
            let some : is_some (first_with r.number put) ≡ true =
            ap (λ n. is_some (first_with n put)) e ∙ given-there k h in
            let no : is_some (first_with r.number put) ≡ false = ap is_some absent in absurd (cc)));
        waits = λ k h. ⊎_elim
            (λ (own : k ≡ r.number). ap (early_at after) own ∙ here
            ∙ sym (first_with-push_new r.number put r refl absent)
            ∙ ap (λ n. first_with n (put ++ r ∷ [])) (sym own))
            (λ (other : k ≡ r.number → ⊥). others k other ∙ has.waits k h
            ∙ sym (first_with-push_other k put r (λ e. other (sym e))))
            (cases_eq k r.number);
        double = subst (IsLeastDouble (numbers_of (put ++ r ∷ []))) (sym double)
            (double-kept put r o.double absent has.double);
      }

  -- the record whose turn it is goes out
  pub HasOrdered-next : (r : Record) (after : Reordering) → first_with (length gave) put ≡ Some r →
      after.next ≡ o.next + 1 → after.double ≡ o.double
      → ((k : ℕ) → (k ≡ o.next → ⊥) → early_at after k ≡ early_at o k) → HasOrdered after put (gave ++ r ∷ [])
  HasOrdered-next r after first next double others =
      let long : length (gave ++ r ∷ []) ≡ length gave + 1 = omega (arith, length-append gave (r ∷ [])) in
      record {
        small = has.small;
        next = next ∙ ap (λ n. n + 1) has.next ∙ sym long;
        given = λ k h. ⊎_elim
            (λ (last : k ≡ length gave). ap (slice_get (gave ++ r ∷ [])) last ∙ slice_get-last gave r ∙ sym first
            ∙ ap (λ n. first_with n put) (sym last))
            (λ (other : k ≡ length gave → ⊥). slice_get-front gave r k (omega arith) ∙ has.given k (omega arith))
            (cases_eq k (length gave));
        waits = λ k h. others k (λ e. omega (arith, has.next)) ∙ has.waits k (omega arith);
        double = subst (IsLeastDouble (numbers_of put)) (sym double) has.double;
      }

  -- A record in its turn, where none of its number waits, is put in and given out at once.
  pub HasOrdered-pass : (r : Record) (after : Reordering) → r.number < 2 ^ 32 → r.number ≡ o.next
      → first_with (length gave) put ≡ None → after.next ≡ o.next + 1 → after.double ≡ o.double
      → ((k : ℕ) → early_at after k ≡ early_at o k) → HasOrdered after (put ++ r ∷ []) (gave ++ r ∷ [])
  HasOrdered-pass r after small turn absent next double same =
      let long : length (gave ++ r ∷ []) ≡ length gave + 1 = omega (arith, length-append gave (r ∷ [])) in
      let own : r.number ≡ length gave = turn ∙ has.next in
      let none : first_with r.number put ≡ None = ap (λ n. first_with n put) own ∙ absent in
      record {
        small = small-push put r has.small small;
        next = next ∙ ap (λ n. n + 1) has.next ∙ sym long;
        given = λ k h. ⊎_elim
            (λ (last : k ≡ length gave). ap (slice_get (gave ++ r ∷ [])) last ∙ slice_get-last gave r
            ∙ sym (first_with-push_new (length gave) put r own absent)
            ∙ ap (λ n. first_with n (put ++ r ∷ [])) (sym last))
            (λ (other : k ≡ length gave → ⊥). slice_get-front gave r k (omega arith) ∙ has.given k (omega arith)
            ∙ sym (first_with-push_other k put r (λ e. other (sym e ∙ own))))
            (cases_eq k (length gave));
        waits = λ k h. same k ∙ has.waits k (omega arith)
            ∙ sym (first_with-push_other k put r (λ e. omega (arith, own)));
        double = subst (IsLeastDouble (numbers_of (put ++ r ∷ []))) (sym double)
            (double-kept put r o.double none has.double);
      }

  -- and none does where none is there
  pub none_next : early_at o o.next ≡ None → first_with (length gave) put ≡ None
  none_next none = sym (has.waits (length gave) (omega arith)) ∙ ap (early_at o) (sym has.next) ∙ none

  -- a number of 33 bits or more never comes
  pub none_past : 2 ^ 32 ≤ o.next → first_with (length gave) put ≡ None
  none_past high = past put has.small
    where
      past : (rs : List Record) → AllByRecursion (λ r. r.number < 2 ^ 32) rs → first_with (length gave) rs ≡ None
      past [] all = refl
      past (r ∷ rs) all = first_with-there (length gave) r rs (λ e. omega (arith, all.0, has.next)) ∙ past rs all.1

pub apart_at : (k q : ℕ) → (q ≡ k → ⊥) → is_at (nat_cmp k) q ≡ false
apart_at k q other = grind (arith, nat_tests)

-- ---- what is missing, and what is double

module _ (o : Reordering) (put gave : List Record) (has : HasOrdered o put gave) where
  came-times : (m : ℕ) → 0 < times m (numbers_of put) → is_some (first_with m put) ≡ true
  came-times m some = ⊎_elim
      (λ (none : first_with m put ≡ None). absurd (omega (arith, times-none m put none)))
      (λ (there : (x : Record) × (first_with m put ≡ Some x)). ap is_some there.1)
      (none_or_some (first_with m put))

  -- where a record waits or was given out, its number occurs
  occurs : (k : ℕ) → (o.next ≤ k → is_some (early_at o k) ≡ true) → 0 < times k (numbers_of put)
  occurs k waits = ⊎_elim
      (λ (h : k < length gave). times-is_some k put (given-there o put gave has k h))
      (λ (h : length gave ≤ k). times-is_some k put (sym (ap is_some (has.waits k h))
      ∙ waits (omega (arith, has.next))))
      (below_or k (length gave))

  pub none_missing : (n : ℕ) → ((k : ℕ) → o.next ≤ k → k < n → is_some (early_at o k) ≡ true) →
      ((m : ℕ) → is_some (early_at o m) ≡ true → m ≤ n)
      → (k : ℕ) → IsMissing (numbers_of put) k → ⊥
  none_missing n below above k missing =
      let m = missing.1.0 in
      let more : k < m = missing.1.1 in
      let there : is_some (first_with m put) ≡ true = came-times m missing.1.2 in
      let here : 0 < times k (numbers_of put) = occurs k (λ from.
      let waits : early_at o m ≡ first_with m put = has.waits m (omega (arith, has.next)) in
      below k from (omega (arith, above m (ap is_some waits ∙ there)))) in
      omega (arith, missing.0)

  pub first_missing : (k n : ℕ) → o.next ≤ k → ((j : ℕ) → o.next ≤ j → j < k → is_some (early_at o j) ≡ true) →
      is_some (early_at o k) ≡ false → k < n → is_some (early_at o n) ≡ true
      → IsMissing (numbers_of put) k × ((j : ℕ) → j < k → 0 < times j (numbers_of put))
  first_missing k n from below none more early =
      let absent : first_with k put ≡ None =
      ⊎_elim (λ (e : first_with k put ≡ None). e)
      (λ (some : (x : Record) × (first_with k put ≡ Some x)).
      let there : is_some (early_at o k) ≡ true = ap is_some (has.waits k (omega (arith, has.next)) ∙ some.1) in
      absurd (cc))
      (none_or_some (first_with k put)) in
      let greater : first_with n put ≡ early_at o n = sym (has.waits n (omega (arith, has.next))) in (
        (times-none k put absent, (n, more, times-is_some n put (ap is_some greater ∙ early))),
        λ j h. occurs j
            (λ at. below j at h),
      )

-- numbers that all occur and of which none is double are fine
pub fine_from : (numbers : List ℕ) (k : ℕ) → ((j : ℕ) → j < k → IsMissing numbers j → ⊥) →
    ((j : ℕ) → j < k → IsDouble numbers j → ⊥) → IsFineBelow numbers k
fine_from numbers k missing double j h = (missing j h, double j h)

pub occurring : (numbers : List ℕ) (j : ℕ) → 0 < times j numbers → IsMissing numbers j → ⊥
occurring numbers j some missing = omega (arith, missing.0)

pub whole_from_none : (numbers : List ℕ) → ((k : ℕ) → IsMissing numbers k → ⊥) → ((k : ℕ) → IsDouble numbers k → ⊥) →
    IsWhole numbers
whole_from_none numbers missing double k h = below (length numbers) (omega arith) k h
  where
    here : (n : ℕ) → n < length numbers → ((k : ℕ) → k < n → times k numbers ≡ 1) → times n numbers ≡ 1
    here n h once = ⊎_elim
        (λ (e : times n numbers ≡ 0). absurd (missing n (missing_at numbers n h once e)))
        (λ (other : times n numbers ≡ 0 → ⊥). ⊎_elim
        (λ (e : times n numbers ≡ 1). e)
        (λ (more : times n numbers ≡ 1 → ⊥). absurd (double n (omega arith)))
        (cases_eq (times n numbers) 1))
        (cases_eq (times n numbers) 0)

    below : (n : ℕ) → n ≤ length numbers → (k : ℕ) → k < n → times k numbers ≡ 1
    below zero h k low = absurd (omega arith)
    below (suc n) h k low = ⊎_elim
        (λ (e : k ≡ n). ap (λ m. times m numbers) e ∙ here n (omega arith) (below n (omega arith)))
        (λ (other : k ≡ n → ⊥). below n (omega arith) k (omega arith))
        (cases_eq k n)
