-- The blocks of a table, looked up by their numbers.
use Rattle.std.proofs.Common.{◌≡◌, ℕ, ◌+◌, ◌<◌, ◌≤◌, zero, suc, Bool, true, false, cond, List, []}
use Rattle.std.proofs.Common.{◌∷◌, ◌++◌, length, get_or, Option, Some, None, refl, sym, ap, ◌∙◌, ⊎_elim, arith}
use Rattle.std.proofs.Common.{set, get_or-set_same, get_or-set_other, length-set, eq-eqb, eqb-true, ne_eqb}
use Rattle.std.specs.Prelude.{nat_eq}
use Rattle.std.proofs.lemmas.Bool.{cases_eq, cond-true, cond-false}
use Rattle.bank_cells.specs.Index.{found_in, entry_in, blocks_in, IsTable}

abbrev pub at : ℕ → List (ℕ × ℕ) → Option ℕ
at q blocks = found_in blocks q

-- a list behind another is looked at where the first has nothing
abbrev pub or_else : Option ℕ → Option ℕ → Option ℕ
or_else None o = o
or_else (Some place) o = Some place

pub lookup-append : (q : ℕ) (es fs : List (ℕ × ℕ)) → at q (es ++ fs) ≡ or_else (at q es) (at q fs)
lookup-append q [] fs = refl
lookup-append q (e ∷ es) fs = go (nat_eq q e.0) (lookup-append q es fs)
  where
    go : (b : Bool) → at q (es ++ fs) ≡ or_else (at q es) (at q fs) →
        cond b (Some e.1) (at q (es ++ fs)) ≡ or_else (cond b (Some e.1) (at q es)) (at q fs)
    go true rest = refl
    go false rest = rest

-- ---- one list of entries

lookup-absent : (q : ℕ) (entries : List (Option (ℕ × ℕ))) → ((i : ℕ) (b : ℕ × ℕ) →
    get_or entries i None ≡ Some b → b.0 ≡ q → ⊥) → at q (blocks_in entries) ≡ None
lookup-absent q [] none = refl
lookup-absent q (None ∷ entries) none = lookup-absent q entries (λ i. none (suc i))
lookup-absent q (Some b ∷ entries) none =
    cond-false (nat_eq q b.0) (Some b.1) (at q (blocks_in entries)) (ne_eqb q b.0 (λ e. none 0 b refl (sym e)))
    ∙ lookup-absent q entries (λ i. none (suc i))

lookup-there : (q : ℕ) (entries : List (Option (ℕ × ℕ))) (i : ℕ) (b : ℕ × ℕ) →
    get_or entries i None ≡ Some b → b.0 ≡ q
    → ((j : ℕ) (c : ℕ × ℕ) → get_or entries j None ≡ Some c → c.0 ≡ q → j ≡ i) →
    at q (blocks_in entries) ≡ Some b.1
lookup-there q [] i b there own only = absurd (cc)
lookup-there q (None ∷ entries) zero b there own only = absurd (cc)
lookup-there q (None ∷ entries) (suc i) b there own only =
    lookup-there q entries i b there own (λ j c is e. let up : suc j ≡ suc i = only (suc j) c is e in omega (arith, up))
lookup-there q (Some x ∷ entries) zero b there own only =
    let same : x ≡ b = cc in
    cond-true (nat_eq q x.0) (Some x.1) (at q (blocks_in entries))
    (eq-eqb q x.0 (sym (ap (λ (y : ℕ × ℕ). y.0) same ∙ own))) ∙ ap (λ (y : ℕ × ℕ). Some y.1) same
lookup-there q (Some x ∷ entries) (suc i) b there own only =
    cond-false (nat_eq q x.0) (Some x.1) (at q (blocks_in entries))
    (ne_eqb q x.0 (λ e. let first : 0 ≡ suc i = only 0 x refl (sym e) in absurd (omega (arith, first))))
    ∙ lookup-there q entries i b there own
    (λ j c is e. let up : suc j ≡ suc i = only (suc j) c is e in omega (arith, up))

-- the other blocks stay where one entry gets another block
lookup-others : (q : ℕ) (entries : List (Option (ℕ × ℕ))) (i : ℕ) (b : ℕ × ℕ) → i < length entries →
    (b.0 ≡ q → ⊥)
    → ((c : ℕ × ℕ) → get_or entries i None ≡ Some c → c.0 ≡ q → ⊥) →
    at q (blocks_in (set entries i (Some b))) ≡ at q (blocks_in entries)
lookup-others q [] i b within other free = absurd (omega (arith, within))
lookup-others q (None ∷ entries) zero b within other free =
    cond-false (nat_eq q b.0) (Some b.1) (at q (blocks_in entries)) (ne_eqb q b.0 (λ e. other (sym e)))
lookup-others q (Some x ∷ entries) zero b within other free =
    cond-false (nat_eq q b.0) (Some b.1) (at q (blocks_in entries)) (ne_eqb q b.0 (λ e. other (sym e)))
    ∙ sym (cond-false (nat_eq q x.0) (Some x.1) (at q (blocks_in entries)) (ne_eqb q x.0 (λ e. free x refl (sym e))))
lookup-others q (None ∷ entries) (suc i) b within other free =
    lookup-others q entries i b (omega (arith, within)) other free
lookup-others q (Some x ∷ entries) (suc i) b within other free =
    ap (cond (nat_eq q x.0) (Some x.1)) (lookup-others q entries i b (omega (arith, within)) other free)

count-new : (entries : List (Option (ℕ × ℕ))) (i : ℕ) (b : ℕ × ℕ) → i < length entries →
    get_or entries i None ≡ None → length (blocks_in (set entries i (Some b))) ≡ length (blocks_in entries) + 1
count-new [] i b within free = absurd (omega (arith, within))
count-new (None ∷ entries) zero b within free = omega arith
count-new (Some x ∷ entries) zero b within free = absurd (cc)
count-new (None ∷ entries) (suc i) b within free = count-new entries i b (omega (arith, within)) free
count-new (Some x ∷ entries) (suc i) b within free =
    omega (arith, count-new entries i b (omega (arith, within)) free)

pub count_within : (entries : List (Option (ℕ × ℕ))) → length (blocks_in entries) ≤ length entries
count_within [] = omega arith
count_within (None ∷ entries) = omega (arith, count_within entries)
count_within (Some x ∷ entries) = omega (arith, count_within entries)

-- ---- a table

-- The table has the block's entry, and this stands there.
pub record IsAtEntry (spread : ℕ) (entries : List (Option (ℕ × ℕ))) (block i : ℕ) (o : Option (ℕ × ℕ))
    : Type 0 where
  pub leads : i ≡ entry_in spread (length entries) block
  pub within : i < length entries
  pub here : get_or entries i None ≡ o

module _ (spread used : ℕ) (entries : List (Option (ℕ × ℕ))) (table : IsTable spread used entries) where
  -- what is not at its entry is nowhere
  pub not_there : (q i : ℕ) (o : Option (ℕ × ℕ)) → i ≡ entry_in spread (length entries) q →
      get_or entries i None ≡ o → ((b : ℕ × ℕ) → o ≡ Some b → b.0 ≡ q → ⊥) → at q (blocks_in entries) ≡ None
  not_there q i o leads is none = lookup-absent q entries (λ j b there own. none b
      (sym is ∙ ap (λ k. get_or entries k None)
      (leads ∙ ap (entry_in spread (length entries)) (sym own) ∙ table.own j b there) ∙ there) own)

  pub is_there : (q i : ℕ) (b : ℕ × ℕ) → get_or entries i None ≡ Some b → b.0 ≡ q →
      at q (blocks_in entries) ≡ Some b.1
  is_there q i b is own = lookup-there q entries i b is own
      (λ j c there e. sym (table.own j c there) ∙ ap (entry_in spread (length entries)) (e ∙ sym own)
      ∙ table.own i b is)

-- a block that is put at its entry
module _ (spread used : ℕ) (entries : List (Option (ℕ × ℕ))) (table : IsTable spread used entries) (i : ℕ)
    (b : ℕ × ℕ) (o : Option (ℕ × ℕ)) (put : IsAtEntry spread entries b.0 i o) where
  own_after : (j : ℕ) (c : ℕ × ℕ) → get_or (set entries i (Some b)) j None ≡ Some c →
      entry_in spread (length (set entries i (Some b))) c.0 ≡ j
  own_after j c is = ap (λ n. entry_in spread n c.0) (length-set entries i (Some b)) ∙ ⊎_elim
      (λ (here : j ≡ i).
      let one : Some b ≡ Some c = sym (get_or-set_same entries i (Some b) None put.within)
      ∙ ap (λ k. get_or (set entries i (Some b)) k None) (sym here) ∙ is in
      let same : b ≡ c = cc in
      ap (λ (x : ℕ × ℕ). entry_in spread (length entries) x.0) (sym same) ∙ sym put.leads ∙ sym here)
      (λ (apart : j ≡ i → ⊥). table.own j c (sym (get_or-set_other entries i j (Some b) None apart) ∙ is))
      (cases_eq j i)

  pub new_table : o ≡ None → IsTable spread (used + 1) (set entries i (Some b))
  new_table free = record {
    own = own_after;
    counted = omega (arith, table.counted, count-new entries i b put.within (put.here ∙ free));
    small = omega (arith, table.small, length-set entries i (Some b));
  }

  -- each block after it was put
  after_put : (more : ℕ) → IsTable spread more (set entries i (Some b))
      → ((c : ℕ × ℕ) → get_or entries i None ≡ Some c → c.0 ≡ b.0) → (q : ℕ)
      → at q (blocks_in (set entries i (Some b))) ≡ cond (nat_eq b.0 q) (Some b.1) (at q (blocks_in entries))
  after_put more new free q = go (nat_eq b.0 q) refl
    where
      go : (t : Bool) → nat_eq b.0 q ≡ t
          → at q (blocks_in (set entries i (Some b))) ≡ cond t (Some b.1) (at q (blocks_in entries))
      go true e = is_there spread more (set entries i (Some b)) new q i b
          (get_or-set_same entries i (Some b) None put.within) (eqb-true b.0 q e)
      go false e =
          let other : b.0 ≡ q → ⊥ = λ same. let yes : nat_eq b.0 q ≡ true = eq-eqb b.0 q same in absurd (cc) in
          lookup-others q entries i b put.within other (λ c is own. other (sym (free c is) ∙ own))

  -- the same where the entry was free
  pub after_new : o ≡ None → (q : ℕ)
      → at q (blocks_in (set entries i (Some b))) ≡ cond (nat_eq b.0 q) (Some b.1) (at q (blocks_in entries))
  after_new free = after_put (used + 1) (new_table free)
      (λ c is. let none : None ≡ Some c = sym (put.here ∙ free) ∙ is in absurd (cc))
