-- Slots of a table, and their entries.
use Rattle.std.proofs.Common.{◌≡◌, ℕ, ◌<◌, ◌≤◌, ◌%◌, zero, suc, true, false, List, [], ◌∷◌}
use Rattle.std.proofs.Common.{length, get_or, set, Option, Some, None, refl, sym, ap, ◌∙◌, subst, ⊎_elim, ◌⊎◌}
use Rattle.std.proofs.Common.{arith, inl, inr, get_or-set_same, get_or-set_other, length-set}
use Rattle.std.specs.BTreeMap.{is_at}
use Rattle.std.specs.Ordering.{nat_cmp}
use Rattle.std.specs.List.{Contains}
use Rattle.std.specs.List.Sorted.{IsPermutation}
use Rattle.std.proofs.lemmas.List.{set-set, set-get_or}
use Rattle.std.proofs.lemmas.List.Sorted.{IsPermutation-refl, IsPermutation-cons, IsPermutation-middle}
use Rattle.std.proofs.lemmas.List.Sorted.{IsPermutation-trans, IsPermutation-sym, Contains-permutation}
use Rattle.std.proofs.lemmas.Bool.{cases_eq, cond-true, cond-false}
use Rattle.std.proofs.lemmas.Bool.Decides.{nat_tests}
use Rattle.trace_early.specs.Slots.{number_of}
use Rattle.trace_early.specs.Table.{entries, place_for, slot_for, AreOwn, numbered_as}

pub none_or_some : {X : Type 0} (o : Option X) → (o ≡ None) ⊎ ((x : X) × (o ≡ Some x))
none_or_some None = inl refl
none_or_some (Some x) = inr (x, refl)

own_at : (n m : ℕ) → m ≡ n → is_at (nat_cmp n) m ≡ true
own_at n m e = grind (arith, nat_tests)

pub apart_at : (n m : ℕ) → (m ≡ n → ⊥) → is_at (nat_cmp n) m ≡ false
apart_at n m other = grind (arith, nat_tests)

-- ---- an entry is in a slot

abbrev pub Slots : Type 0
Slots = List (Option (ℕ × ℕ))

pub entry_there : (slots : Slots) (slot : ℕ) (e : ℕ × ℕ) → get_or slots slot None ≡ Some e → Contains (entries slots) e
entry_there [] slot e is = absurd (cc)
entry_there (None ∷ slots) zero e is = absurd (cc)
entry_there (None ∷ slots) (suc slot) e is = entry_there slots slot e is
entry_there (Some x ∷ slots) zero e is =
    let same : x ≡ e = cc in
    (0, omega arith, same)
entry_there (Some x ∷ slots) (suc slot) e is =
    let there = entry_there slots slot e is in
    (suc there.0, omega (arith, there.1), there.2)

pub slot_there : (slots : Slots) (e : ℕ × ℕ) → Contains (entries slots) e
    → (slot : ℕ) × (get_or slots slot None ≡ Some e)
slot_there [] e (k, below, is) = absurd (omega arith)
slot_there (None ∷ slots) e there =
    let found = slot_there slots e there in
    (suc found.0, found.1)
slot_there (Some x ∷ slots) e (zero, below, is) = (0, ap Some is)
slot_there (Some x ∷ slots) e (suc k, below, is) =
    let found = slot_there slots e (k, omega arith, is) in
    (suc found.0, found.1)

pub length_entries : (slots : Slots) → length (entries slots) ≤ length slots
length_entries [] = omega arith
length_entries (None ∷ slots) = omega (arith, length_entries slots)
length_entries (Some e ∷ slots) = omega (arith, length_entries slots)

-- ---- an entry more, or one less

pub entries_put : (slots : Slots) (slot : ℕ) (e : ℕ × ℕ) → slot < length slots → get_or slots slot None ≡ None
    → IsPermutation (entries (set slots slot (Some e))) (e ∷ entries slots)
entries_put [] slot e below free = absurd (omega arith)
entries_put (None ∷ slots) zero e below free = IsPermutation-refl (e ∷ entries slots)
entries_put (Some x ∷ slots) zero e below free = absurd (cc)
entries_put (None ∷ slots) (suc slot) e below free = entries_put slots slot e (omega arith) free
entries_put (Some x ∷ slots) (suc slot) e below free = IsPermutation-trans
    (x ∷ entries (set slots slot (Some e))) (x ∷ e ∷ entries slots) (e ∷ x ∷ entries slots)
    (IsPermutation-cons x (entries (set slots slot (Some e))) (e ∷ entries slots)
    (entries_put slots slot e (omega arith) free))
    (IsPermutation-middle (x ∷ []) e (entries slots))

pub within : (slots : Slots) (slot : ℕ) (e : ℕ × ℕ) → get_or slots slot None ≡ Some e → slot < length slots
within [] slot e is = absurd (cc)
within (o ∷ slots) zero e is = omega arith
within (o ∷ slots) (suc slot) e is = omega (arith, within slots slot e is)

pub entries_gone : (slots : Slots) (slot : ℕ) (e : ℕ × ℕ) → get_or slots slot None ≡ Some e
    → IsPermutation (entries slots) (e ∷ entries (set slots slot None))
entries_gone slots slot e is =
    let below = within slots slot e is in
    let again : set (set slots slot None) slot (Some e) ≡ slots = set-set slots slot None (Some e)
    ∙ ap (set slots slot) (sym is) ∙ set-get_or slots slot None in
    subst (λ (all : Slots). IsPermutation (entries all) (e ∷ entries (set slots slot None))) again
    (entries_put (set slots slot None) slot e (omega (arith, length-set slots slot None))
    (get_or-set_same slots slot None None below))

-- ---- what a number's slot has

lookup_there : (slots : Slots) (n p slot : ℕ) → get_or slots slot None ≡ Some (n, p)
    → ((j q : ℕ) → get_or slots j None ≡ Some (n, q) → q ≡ p) → numbered_as n (entries slots) ≡ Some p
lookup_there [] n p slot is only = absurd (cc)
lookup_there (None ∷ slots) n p zero is only = absurd (cc)
lookup_there (None ∷ slots) n p (suc slot) is only = lookup_there slots n p slot is (λ j. only (suc j))
lookup_there (Some (m, q) ∷ slots) n p slot is only = ⊎_elim
    (λ (same : m ≡ n). cond-true (is_at (nat_cmp n) m) (Some q) (numbered_as n (entries slots)) (own_at n m same)
    ∙ ap Some (only 0 q (ap (λ k. Some (k, q)) same)))
    (λ (other : m ≡ n → ⊥). cond-false (is_at (nat_cmp n) m) (Some q) (numbered_as n (entries slots))
    (apart_at n m other) ∙ later slot is other
    (λ k there. lookup_there slots n p k there (λ j. only (suc j))))
    (cases_eq m n)
  where
    later : (slot : ℕ) → get_or (Some (m, q) ∷ slots) slot None ≡ Some (n, p) → (m ≡ n → ⊥)
        → ((k : ℕ) → get_or slots k None ≡ Some (n, p) → numbered_as n (entries slots) ≡ Some p)
        → numbered_as n (entries slots) ≡ Some p
    later zero is other rest = absurd (other (ap number_of is))
    later (suc slot) is other rest = rest slot is

lookup_absent : (slots : Slots) (n : ℕ) → ((j q : ℕ) → get_or slots j None ≡ Some (n, q) → ⊥)
    → numbered_as n (entries slots) ≡ None
lookup_absent [] n none = refl
lookup_absent (None ∷ slots) n none = lookup_absent slots n (λ j. none (suc j))
lookup_absent (Some (m, q) ∷ slots) n none =
    cond-false (is_at (nat_cmp n) m) (Some q) (numbered_as n (entries slots))
    (apart_at n m (λ same. none 0 q (ap (λ k. Some (k, q)) same)))
    ∙ lookup_absent slots n (λ j. none (suc j))

pub place_own : (n p : ℕ) → place_for n (Some (n, p)) ≡ Some p
place_own n p = grind (arith, nat_tests)

pub place_other : (n m p : ℕ) → (m ≡ n → ⊥) → place_for n (Some (m, p)) ≡ None
place_other n m p other = grind (arith, nat_tests)

place_same : (n p q : ℕ) → ◌≡◌ {A = Option (ℕ × ℕ)} (Some (n, p)) (Some (n, q)) → p ≡ q
place_same n p q is =
    let one : Some p ≡ Some q = sym (place_own n p) ∙ ap (place_for n) is ∙ place_own n q in
    cc

-- the entry that gives a number's place has that number
pub place_is : (n p : ℕ) (o : Option (ℕ × ℕ)) → place_for n o ≡ Some p → o ≡ Some (n, p)
place_is n p None is = absurd (cc)
place_is n p (Some (m, q)) is = ⊎_elim
    (λ (same : m ≡ n).
    let one : Some q ≡ Some p = sym (place_own m q) ∙ ap (λ k. place_for k (Some (m, q))) same ∙ is in
    let place : q ≡ p = cc in
    (λ i. Some (same i, place i)))
    (λ (other : m ≡ n → ⊥). absurd (cc (place_other n m q other, is)))
    (cases_eq m n)

pub at_slot : (slots : Slots) → AreOwn slots → (n : ℕ) → numbered_as n (entries slots) ≡ place_for n (slot_for slots n)
at_slot slots own n = ⊎_elim
    (λ (none : place_for n (slot_for slots n) ≡ None). lookup_absent slots n
    (λ j q is. let place : place_for n (slot_for slots n) ≡ Some q = ap (place_for n)
    (ap (λ k. get_or slots k None) (own j n q is) ∙ is) ∙ place_own n q in
    absurd (cc (none, place))) ∙ sym none)
    (λ (some : (p : ℕ) × (place_for n (slot_for slots n) ≡ Some p)).
    let here : slot_for slots n ≡ Some (n, some.0) = place_is n some.0 (slot_for slots n) some.1 in
    lookup_there slots n some.0 (n % length slots) here
    (λ j q is. let one : Some (n, q) ≡ Some (n, some.0) = sym is ∙ ap (λ k. get_or slots k None) (sym (own j n q is))
    ∙ here in
    place_same n q some.0 one) ∙ sym some.1)
    (none_or_some (place_for n (slot_for slots n)))

-- ---- one slot changes

module _ (slots : Slots) (slot : ℕ) (below : slot < length slots) where
  AreOwn-set : (o : Option (ℕ × ℕ)) → AreOwn slots
      → ((n p : ℕ) → o ≡ Some (n, p) → n % length slots ≡ slot) → AreOwn (set slots slot o)
  AreOwn-set o own here j n p is = ⊎_elim
      (λ (same : j ≡ slot).
      let there : o ≡ Some (n, p) = sym (get_or-set_same slots slot o None below)
      ∙ ap (λ k. get_or (set slots slot o) k None) (sym same) ∙ is in
      ap (λ k. n % k) (length-set slots slot o) ∙ here n p there ∙ sym same)
      (λ (other : j ≡ slot → ⊥). ap (λ k. n % k) (length-set slots slot o)
      ∙ own j n p (sym (get_or-set_other slots slot j o None other) ∙ is))
      (cases_eq j slot)

  pub AreOwn-put : (n p : ℕ) → AreOwn slots → n % length slots ≡ slot → AreOwn (set slots slot (Some (n, p)))
  AreOwn-put n p own is = AreOwn-set (Some (n, p)) own
      (λ m q same. ap (λ k. k % length slots) (sym (ap number_of same)) ∙ is)

  pub AreOwn-gone : AreOwn slots → AreOwn (set slots slot None)
  AreOwn-gone own = AreOwn-set None own (λ m q same. absurd (cc))

  pub slot_for-same : (o : Option (ℕ × ℕ)) (n : ℕ) → n % length slots ≡ slot → slot_for (set slots slot o) n ≡ o
  slot_for-same o n is = ap (λ k. get_or (set slots slot o) k None)
      (ap (λ k. n % k) (length-set slots slot o) ∙ is) ∙ get_or-set_same slots slot o None below

  pub slot_for-other : (o : Option (ℕ × ℕ)) (n : ℕ) → (n % length slots ≡ slot → ⊥)
      → slot_for (set slots slot o) n ≡ slot_for slots n
  slot_for-other o n not = ap (λ k. get_or (set slots slot o) (n % k) None) (length-set slots slot o)
      ∙ get_or-set_other slots slot (n % length slots) o None not

  -- the place of each other number stays, where the slot has none of it before and afterwards
  pub place-stays : (o : Option (ℕ × ℕ)) (n : ℕ) → place_for n (get_or slots slot None) ≡ None → place_for n o ≡ None
      → place_for n (slot_for (set slots slot o) n) ≡ place_for n (slot_for slots n)
  place-stays o n was is = ⊎_elim
      (λ (same : n % length slots ≡ slot). ap (place_for n) (slot_for-same o n same) ∙ is ∙ sym was
      ∙ ap (λ k. place_for n (get_or slots k None)) (sym same))
      (λ (other : n % length slots ≡ slot → ⊥). ap (place_for n) (slot_for-other o n other))
      (cases_eq (n % length slots) slot)

-- ---- the same entries in another table

pub place_moved : (slots more : Slots) → AreOwn slots → AreOwn more → IsPermutation (entries slots) (entries more)
    → (n p : ℕ) → place_for n (slot_for slots n) ≡ Some p → place_for n (slot_for more n) ≡ Some p
place_moved slots more own owns same n p is =
    let there = slot_there more (n, p) (Contains-permutation (entries slots) (entries more) (n, p) same
    (entry_there slots (n % length slots) (n, p) (place_is n p (slot_for slots n) is))) in
    ap (place_for n) (ap (λ k. get_or more k None) (owns there.0 n p there.1) ∙ there.1) ∙ place_own n p

pub place_both : (slots more : Slots) → AreOwn slots → AreOwn more → IsPermutation (entries slots) (entries more)
    → (n : ℕ) → place_for n (slot_for more n) ≡ place_for n (slot_for slots n)
place_both slots more own owns same n = ⊎_elim
    (λ (none : place_for n (slot_for slots n) ≡ None). ⊎_elim
    (λ (is : place_for n (slot_for more n) ≡ None). is ∙ sym none)
    (λ (some : (p : ℕ) × (place_for n (slot_for more n) ≡ Some p)).
    let back = place_moved more slots owns own (IsPermutation-sym (entries slots) (entries more) same) n some.0
    some.1 in
    absurd (cc (none, back)))
    (none_or_some (place_for n (slot_for more n))))
    (λ (some : (p : ℕ) × (place_for n (slot_for slots n) ≡ Some p)).
    place_moved slots more own owns same n some.0 some.1 ∙ sym some.1)
    (none_or_some (place_for n (slot_for slots n)))
