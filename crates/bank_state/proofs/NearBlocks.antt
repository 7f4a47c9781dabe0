-- The blocks of a table, looked up by their numbers.
use Rattle.std.proofs.Common.{◌≡◌, ℕ, ◌+◌, ◌<◌, ◌≤◌, zero, suc, Bool, true, false, cond, List, []}
use Rattle.std.proofs.Common.{◌∷◌, ◌++◌, length, get_or, Option, Some, None, refl, sym, ap, ◌∙◌, ⊎_elim, arith}
use Rattle.std.proofs.Common.{set, get_or-set_same, get_or-set_other, length-set, eq-eqb, eqb-true, ne_eqb}
use Rattle.std.specs.Prelude.{nat_eq}
use Rattle.std.specs.Map.{lookup}
use Rattle.std.proofs.lemmas.Bool.{cases_eq, cond-true, cond-false}
use Rattle.bank_state.specs.Near.{place_in, blocks_in, IsTable}

abbrev pub at : ℕ → List (ℕ × List ℕ) → Option (List ℕ)
at q blocks = lookup (nat_eq q) blocks

-- a list behind another is looked at where the first has nothing
abbrev pub or_else : Option (List ℕ) → Option (List ℕ) → Option (List ℕ)
or_else None o = o
or_else (Some bytes) o = Some bytes

pub lookup-append : (q : ℕ) (es fs : List (ℕ × List ℕ)) → at q (es ++ fs) ≡ or_else (at q es) (at q fs)
lookup-append q [] fs = refl
lookup-append q (e ∷ es) fs = go (nat_eq q e.0) (lookup-append q es fs)
  where
    go : (b : Bool) → at q (es ++ fs) ≡ or_else (at q es) (at q fs) →
        cond b (Some e.1) (at q (es ++ fs)) ≡ or_else (cond b (Some e.1) (at q es)) (at q fs)
    go true rest = refl
    go false rest = rest

-- ---- one list of places

lookup-absent : (q : ℕ) (places : List (Option (ℕ × List ℕ))) → ((i : ℕ) (b : ℕ × List ℕ) →
    get_or places i None ≡ Some b → b.0 ≡ q → ⊥) → at q (blocks_in places) ≡ None
lookup-absent q [] none = refl
lookup-absent q (None ∷ places) none = lookup-absent q places (λ i. none (suc i))
lookup-absent q (Some b ∷ places) none =
    cond-false (nat_eq q b.0) (Some b.1) (at q (blocks_in places)) (ne_eqb q b.0 (λ e. none 0 b refl (sym e)))
    ∙ lookup-absent q places (λ i. none (suc i))

lookup-there : (q : ℕ) (places : List (Option (ℕ × List ℕ))) (i : ℕ) (b : ℕ × List ℕ) →
    get_or places i None ≡ Some b → b.0 ≡ q
    → ((j : ℕ) (c : ℕ × List ℕ) → get_or places j None ≡ Some c → c.0 ≡ q → j ≡ i) →
    at q (blocks_in places) ≡ Some b.1
lookup-there q [] i b there own only = absurd (cc)
lookup-there q (None ∷ places) zero b there own only = absurd (cc)
lookup-there q (None ∷ places) (suc i) b there own only =
    lookup-there q places i b there own (λ j c is e. let up : suc j ≡ suc i = only (suc j) c is e in omega (arith, up))
lookup-there q (Some x ∷ places) zero b there own only =
    let same : x ≡ b = cc in
    cond-true (nat_eq q x.0) (Some x.1) (at q (blocks_in places))
    (eq-eqb q x.0 (sym (ap (λ (y : ℕ × List ℕ). y.0) same ∙ own))) ∙ ap (λ (y : ℕ × List ℕ). Some y.1) same
lookup-there q (Some x ∷ places) (suc i) b there own only =
    cond-false (nat_eq q x.0) (Some x.1) (at q (blocks_in places))
    (ne_eqb q x.0 (λ e. let first : 0 ≡ suc i = only 0 x refl (sym e) in absurd (omega (arith, first))))
    ∙ lookup-there q places i b there own
    (λ j c is e. let up : suc j ≡ suc i = only (suc j) c is e in omega (arith, up))

-- the other blocks stay where one place gets another block
lookup-others : (q : ℕ) (places : List (Option (ℕ × List ℕ))) (i : ℕ) (b : ℕ × List ℕ) → i < length places →
    (b.0 ≡ q → ⊥)
    → ((c : ℕ × List ℕ) → get_or places i None ≡ Some c → c.0 ≡ q → ⊥) →
    at q (blocks_in (set places i (Some b))) ≡ at q (blocks_in places)
lookup-others q [] i b within other free = absurd (omega (arith, within))
lookup-others q (None ∷ places) zero b within other free =
    cond-false (nat_eq q b.0) (Some b.1) (at q (blocks_in places)) (ne_eqb q b.0 (λ e. other (sym e)))
lookup-others q (Some x ∷ places) zero b within other free =
    cond-false (nat_eq q b.0) (Some b.1) (at q (blocks_in places)) (ne_eqb q b.0 (λ e. other (sym e)))
    ∙ sym (cond-false (nat_eq q x.0) (Some x.1) (at q (blocks_in places)) (ne_eqb q x.0 (λ e. free x refl (sym e))))
lookup-others q (None ∷ places) (suc i) b within other free =
    lookup-others q places i b (omega (arith, within)) other free
lookup-others q (Some x ∷ places) (suc i) b within other free =
    ap (cond (nat_eq q x.0) (Some x.1)) (lookup-others q places i b (omega (arith, within)) other free)

count-new : (places : List (Option (ℕ × List ℕ))) (i : ℕ) (b : ℕ × List ℕ) → i < length places →
    get_or places i None ≡ None → length (blocks_in (set places i (Some b))) ≡ length (blocks_in places) + 1
count-new [] i b within free = absurd (omega (arith, within))
count-new (None ∷ places) zero b within free = omega arith
count-new (Some x ∷ places) zero b within free = absurd (cc)
count-new (None ∷ places) (suc i) b within free = count-new places i b (omega (arith, within)) free
count-new (Some x ∷ places) (suc i) b within free =
    omega (arith, count-new places i b (omega (arith, within)) free)

count-same : (places : List (Option (ℕ × List ℕ))) (i : ℕ) (b c : ℕ × List ℕ) → i < length places →
    get_or places i None ≡ Some c → length (blocks_in (set places i (Some b))) ≡ length (blocks_in places)
count-same [] i b c within taken = absurd (omega (arith, within))
count-same (None ∷ places) zero b c within taken = absurd (cc)
count-same (Some x ∷ places) zero b c within taken = omega arith
count-same (None ∷ places) (suc i) b c within taken = count-same places i b c (omega (arith, within)) taken
count-same (Some x ∷ places) (suc i) b c within taken =
    omega (arith, count-same places i b c (omega (arith, within)) taken)

pub count_within : (places : List (Option (ℕ × List ℕ))) → length (blocks_in places) ≤ length places
count_within [] = omega arith
count_within (None ∷ places) = omega (arith, count_within places)
count_within (Some x ∷ places) = omega (arith, count_within places)

-- one place has one number
pub same_number : (a b : ℕ × List ℕ) → Some a ≡ Some b → a.0 ≡ b.0
same_number a b e = let same : a ≡ b = cc in ap (λ (x : ℕ × List ℕ). x.0) same

-- ---- a table

-- The table has the block's place, and this stands there.
pub record IsAtPlace (spread : ℕ) (places : List (Option (ℕ × List ℕ))) (block i : ℕ) (o : Option (ℕ × List ℕ))
    : Type 0 where
  pub leads : i ≡ place_in spread (length places) block
  pub within : i < length places
  pub here : get_or places i None ≡ o

module _ (spread used : ℕ) (places : List (Option (ℕ × List ℕ))) (table : IsTable spread used places) where
  -- what is not at its place is nowhere
  pub not_there : (q i : ℕ) (o : Option (ℕ × List ℕ)) → i ≡ place_in spread (length places) q →
      get_or places i None ≡ o → ((b : ℕ × List ℕ) → o ≡ Some b → b.0 ≡ q → ⊥) → at q (blocks_in places) ≡ None
  not_there q i o leads is none = lookup-absent q places (λ j b there own. none b
      (sym is ∙ ap (λ k. get_or places k None)
      (leads ∙ ap (place_in spread (length places)) (sym own) ∙ table.own j b there) ∙ there) own)

  pub is_there : (q i : ℕ) (b : ℕ × List ℕ) → get_or places i None ≡ Some b → b.0 ≡ q →
      at q (blocks_in places) ≡ Some b.1
  is_there q i b is own = lookup-there q places i b is own
      (λ j c there e. sym (table.own j c there) ∙ ap (place_in spread (length places)) (e ∙ sym own)
      ∙ table.own i b is)

-- a block that is put at its place
module _ (spread used : ℕ) (places : List (Option (ℕ × List ℕ))) (table : IsTable spread used places) (i : ℕ)
    (b : ℕ × List ℕ) (o : Option (ℕ × List ℕ)) (put : IsAtPlace spread places b.0 i o) where
  own_after : (j : ℕ) (c : ℕ × List ℕ) → get_or (set places i (Some b)) j None ≡ Some c →
      place_in spread (length (set places i (Some b))) c.0 ≡ j
  own_after j c is = ap (λ n. place_in spread n c.0) (length-set places i (Some b)) ∙ ⊎_elim
      (λ (here : j ≡ i).
      let one : Some b ≡ Some c = sym (get_or-set_same places i (Some b) None put.within)
      ∙ ap (λ k. get_or (set places i (Some b)) k None) (sym here) ∙ is in
      let same : b ≡ c = cc in
      ap (λ (x : ℕ × List ℕ). place_in spread (length places) x.0) (sym same) ∙ sym put.leads ∙ sym here)
      (λ (apart : j ≡ i → ⊥). table.own j c (sym (get_or-set_other places i j (Some b) None apart) ∙ is))
      (cases_eq j i)

  pub new_table : o ≡ None → IsTable spread (used + 1) (set places i (Some b))
  new_table free = record {
    own = own_after;
    counted = omega (arith, table.counted, count-new places i b put.within (put.here ∙ free));
    small = omega (arith, table.small, length-set places i (Some b));
  }

  pub same_table : (c : ℕ × List ℕ) → o ≡ Some c → IsTable spread used (set places i (Some b))
  same_table c taken = record {
    own = own_after;
    counted = omega (arith, table.counted, count-same places i b c put.within (put.here ∙ taken));
    small = omega (arith, table.small, length-set places i (Some b));
  }

  -- each block after it was put
  after_put : (more : ℕ) → IsTable spread more (set places i (Some b))
      → ((c : ℕ × List ℕ) → get_or places i None ≡ Some c → c.0 ≡ b.0) → (q : ℕ)
      → at q (blocks_in (set places i (Some b))) ≡ cond (nat_eq b.0 q) (Some b.1) (at q (blocks_in places))
  after_put more new free q = go (nat_eq b.0 q) refl
    where
      go : (t : Bool) → nat_eq b.0 q ≡ t
          → at q (blocks_in (set places i (Some b))) ≡ cond t (Some b.1) (at q (blocks_in places))
      go true e = is_there spread more (set places i (Some b)) new q i b
          (get_or-set_same places i (Some b) None put.within) (eqb-true b.0 q e)
      go false e =
          let other : b.0 ≡ q → ⊥ = λ same. let yes : nat_eq b.0 q ≡ true = eq-eqb b.0 q same in absurd (cc) in
          lookup-others q places i b put.within other (λ c is own. other (sym (free c is) ∙ own))

  -- the same where the place was free, and where the block stood there
  pub after_new : o ≡ None → (q : ℕ)
      → at q (blocks_in (set places i (Some b))) ≡ cond (nat_eq b.0 q) (Some b.1) (at q (blocks_in places))
  after_new free = after_put (used + 1) (new_table free)
      (λ c is. let none : None ≡ Some c = sym (put.here ∙ free) ∙ is in absurd (cc))

  pub after_same : (c : ℕ × List ℕ) → o ≡ Some c → c.0 ≡ b.0 → (q : ℕ)
      → at q (blocks_in (set places i (Some b))) ≡ cond (nat_eq b.0 q) (Some b.1) (at q (blocks_in places))
  after_same c taken own = after_put used (same_table c taken)
      (λ d is. same_number d c (sym is ∙ put.here ∙ taken) ∙ own)
