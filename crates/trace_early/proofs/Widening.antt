-- A table of twice as many slots with the same entries.
use Rattle.std.proofs.Common.{◌≡◌, ℕ, ◌+◌, ◌*◌, ◌<◌, ◌≤◌, ◌%◌, ◌/◌, ◌^◌, zero, suc, List, [], ◌∷◌, ◌++◌, length, get_or}
use Rattle.std.proofs.Common.{set, Option, Some, None, refl, sym, ap, ◌∙◌, subst, ⊎_elim, arith, take, replicate}
use Rattle.std.proofs.Common.{length-set}
use Rattle.std.specs.List.Sorted.{IsPermutation}
use Rattle.std.proofs.Math.Nat.{add-mul-mod_self_left, mod-add-div}
use Rattle.std.proofs.lemmas.List.{take_more, take_all, append-nil}
use Rattle.std.proofs.lemmas.List.Sorted.{IsPermutation-refl, IsPermutation-push_more, IsPermutation-sym}
use Rattle.std.proofs.lemmas.List.Sorted.{Contains-permutation}
use Rattle.std.proofs.lemmas.Nat.{mod_below}
use Rattle.trace_early.specs.Table.{entries, AreOwn, AreSized}
use Rattle.trace_early.proofs.Slots.{Slots, none_or_some, entry_there, slot_there, entries_put, AreOwn-put}

-- the entries of the first slots are in the wider table, and no others
pub record IsWidened (slots wider : Slots) (i : ℕ) : Type 0 where
  pub len : length wider ≡ 2 * length slots
  pub own : AreOwn wider
  pub same : IsPermutation (entries (take i slots)) (entries wider)

-- ---- a table without entries

pub no_entries : (n : ℕ) → entries (replicate n None) ≡ []
no_entries zero = refl
no_entries (suc n) = no_entries n

pub free : (n slot : ℕ) → get_or (replicate {A = Option (ℕ × ℕ)} n None) slot None ≡ None
free zero slot = refl
free (suc n) zero = refl
free (suc n) (suc slot) = free n slot

pub AreOwn-none : (n : ℕ) → AreOwn (replicate n None)
AreOwn-none n slot number place is = absurd (cc (free n slot, is))

pub IsWidened-none : (slots wider : Slots) → wider ≡ replicate (2 * length slots) None
    → length wider ≡ 2 * length slots → IsWidened slots wider 0
IsWidened-none slots wider all len = record {
  len = len;
  own = subst AreOwn (sym all) (AreOwn-none (2 * length slots));
  same = subst (λ (es : List (ℕ × ℕ)). IsPermutation [] es) (sym (ap entries all ∙ no_entries (2 * length slots)))
      (IsPermutation-refl []);
}

-- ---- one slot more

entries-append : (xs ys : Slots) → entries (xs ++ ys) ≡ entries xs ++ entries ys
entries-append [] ys = refl
entries-append (None ∷ xs) ys = entries-append xs ys
entries-append (Some e ∷ xs) ys = ap (λ es. e ∷ es) (entries-append xs ys)

entries_more : (slots : Slots) (i : ℕ) → i < length slots
    → entries (take (i + 1) slots) ≡ entries (take i slots) ++ entries (get_or slots i None ∷ [])
entries_more slots i below = ap entries (take_more slots i None below)
    ∙ entries-append (take i slots) (get_or slots i None ∷ [])

mod_half : (n len : ℕ) → (n % (2 * len)) % len ≡ n % len
mod_half n len = sym (add-mul-mod_self_left (n % (2 * len)) len (2 * (n / (2 * len))))
    ∙ ap (λ m. m % len) (grind (arith, mod-add-div n (2 * len)))

pub IsWidened-skip : (slots wider : Slots) (i : ℕ) → i < length slots → get_or slots i None ≡ None
    → IsWidened slots wider i → IsWidened slots wider (i + 1)
IsWidened-skip slots wider i below none done = record {
  len = done.len;
  own = done.own;
  same = subst (λ (es : List (ℕ × ℕ)). IsPermutation es (entries wider))
      (sym (entries_more slots i below ∙ ap (λ o. entries (take i slots) ++ entries (o ∷ [])) none
      ∙ append-nil (entries (take i slots)))) done.same;
}

in_first : (slots : Slots) (i j : ℕ) (e : ℕ × ℕ) → get_or (take i slots) j None ≡ Some e
    → (j < i) × (get_or slots j None ≡ Some e)
in_first slots zero j e is = absurd (cc)
in_first [] (suc i) j e is = absurd (cc)
in_first (o ∷ slots) (suc i) zero e is = (omega arith, is)
in_first (o ∷ slots) (suc i) (suc j) e is =
    let found = in_first slots i j e is in
    (omega (arith, found.0), found.1)

module _ (slots wider : Slots) (i n p to : ℕ) (own : AreOwn slots) (below : i < length slots)
    (here : get_or slots i None ≡ Some (n, p)) (done : IsWidened slots wider i) (at : n % length wider ≡ to) where
  -- two entries of a slot of the wider table are of one slot
  is_free : get_or wider to None ≡ None
  is_free = ⊎_elim (λ (none : get_or wider to None ≡ None). none)
      (λ (some : (e : ℕ × ℕ) × (get_or wider to None ≡ Some e)).
      let e = some.0 in
      let there = slot_there (take i slots) e (Contains-permutation (entries wider) (entries (take i slots)) e
      (IsPermutation-sym (entries (take i slots)) (entries wider) done.same) (entry_there wider to e some.1)) in
      let before = in_first slots i there.0 e there.1 in
      let wide : e.0 % length wider ≡ n % length wider = done.own to e.0 e.1 some.1 ∙ sym at in
      let narrow : e.0 % length slots ≡ n % length slots = sym (mod_half e.0 (length slots))
      ∙ ap (λ k. k % length slots) (ap (λ k. e.0 % k) (sym done.len) ∙ wide ∙ ap (λ k. n % k) done.len)
      ∙ mod_half n (length slots) in
      absurd (omega (arith, before.0, own there.0 e.0 e.1 before.1, own i n p here, narrow)))
      (none_or_some (get_or wider to None))

  pub inside : to < length wider
  inside = omega (arith, mod_below n (length wider) (omega (arith, done.len)), done.len)

  pub IsWidened-more : IsWidened slots (set wider to (Some (n, p))) (i + 1)
  IsWidened-more = record {
    len = length-set wider to (Some (n, p)) ∙ done.len;
    own = AreOwn-put wider to inside n p done.own at;
    same = subst (λ (es : List (ℕ × ℕ)). IsPermutation es (entries (set wider to (Some (n, p)))))
        (sym (entries_more slots i below ∙ ap (λ o. entries (take i slots) ++ entries (o ∷ [])) here))
        (IsPermutation-push_more (entries (take i slots)) (entries wider) (entries (set wider to (Some (n, p)))) (n, p)
        done.same
        (IsPermutation-sym (entries (set wider to (Some (n, p)))) ((n, p) ∷ entries wider)
        (entries_put wider to (n, p) inside is_free)));
  }

-- ---- all of them

pub IsWidened-all : (slots wider : Slots) (i : ℕ) → length slots ≤ i → IsWidened slots wider i
    → IsPermutation (entries slots) (entries wider)
IsWidened-all slots wider i all done = subst (λ (some : Slots). IsPermutation (entries some) (entries wider))
    (take_all i slots all) done.same

pub IsWidened-sized : (slots wider : Slots) → 0 < length slots → AreSized slots → length wider ≡ 2 * length slots
    → (bits : ℕ) × (length wider ≡ 2 ^ bits)
IsWidened-sized slots wider some sized len =
    let bits = sized some in
    (suc bits.0, omega (arith, len, bits.1, twice bits.0))
  where
    twice : (bits : ℕ) → 2 ^ suc bits ≡ 2 * 2 ^ bits
    twice bits = grind arith
