-- A table of twice as many entries.
use Rattle.std.proofs.Common.{◌≡◌, ℕ, ◌+◌, ◌*◌, ◌≤◌, ◌%◌, ◌/◌, ◌^◌, zero, suc, Bool, true, false, cond, List, []}
use Rattle.std.proofs.Common.{◌∷◌, ◌++◌, ◌==◌, length, get_or, Option, Some, None, refl, sym, ap, ◌∙◌, arith, drop}
use Rattle.std.proofs.Common.{eqb-true, length-append, append-nil}
use Rattle.std.proofs.lemmas.Bool.{eqb-false}
use Rattle.std.proofs.lemmas.List.{drop_all}
use Rattle.bank_cells.specs.Index.{entry_in, blocks_in, goes_second, IsTable}

abbrev pub two_entries : ℕ → ℕ → Option (ℕ × ℕ) → List (Option (ℕ × ℕ))
two_entries spread count entry =
    cond (goes_second spread count entry) (None ∷ entry ∷ []) (entry ∷ None ∷ [])

abbrev pub wider : ℕ → ℕ → List (Option (ℕ × ℕ)) → List (Option (ℕ × ℕ))
wider spread count [] = []
wider spread count (entry ∷ entries) = two_entries spread count entry ++ wider spread count entries

-- of twice as many entries a block stands at one of two
entry_half : (spread n q : ℕ) → entry_in spread (2 * n) q / 2 ≡ entry_in spread n q
entry_half spread n q = half (q * spread % 2 ^ 32 * n) (q * spread % 2 ^ 32 * (2 * n)) (grind arith)
  where
    half : (x y : ℕ) → y ≡ 2 * x → y / 2 ^ 32 / 2 ≡ x / 2 ^ 32
    half x y e = omega (arith, e)

module _ (spread : ℕ) where
  pub wider_blocks : (count : ℕ) (entries : List (Option (ℕ × ℕ))) →
      blocks_in (wider spread count entries) ≡ blocks_in entries
  wider_blocks count [] = refl
  wider_blocks count (None ∷ entries) = wider_blocks count entries
  wider_blocks count (Some b ∷ entries) = go (goes_second spread count (Some b)) (wider_blocks count entries)
    where
      go : (t : Bool) → blocks_in (wider spread count entries) ≡ blocks_in entries
          → blocks_in (cond t (None ∷ Some b ∷ []) (Some b ∷ None ∷ []) ++ wider spread count entries)
          ≡ b ∷ blocks_in entries
      go true rest = ap (λ (bs : List (ℕ × ℕ)). b ∷ bs) rest
      go false rest = ap (λ (bs : List (ℕ × ℕ)). b ∷ bs) rest

  two_long : (count : ℕ) (entry : Option (ℕ × ℕ)) (t : Bool) →
      length (cond t (None ∷ entry ∷ []) (entry ∷ None ∷ [])) ≡ 2
  two_long count entry true = omega arith
  two_long count entry false = omega arith

  pub wider_len : (count : ℕ) (entries : List (Option (ℕ × ℕ))) → length (wider spread count entries)
      ≡ 2 * length entries
  wider_len count [] = omega arith
  wider_len count (entry ∷ entries) = omega (
    arith,
    length-append (two_entries spread count entry) (wider spread count entries),
    two_long count entry (goes_second spread count entry),
    wider_len count entries,
  )

  wider_own : (n base : ℕ) (entries : List (Option (ℕ × ℕ)))
      → ((i : ℕ) (b : ℕ × ℕ) → get_or entries i None ≡ Some b → entry_in spread n b.0 ≡ base + i)
      → (i : ℕ) (b : ℕ × ℕ) → get_or (wider spread (2 * n) entries) i None ≡ Some b →
      entry_in spread (2 * n) b.0 ≡ 2 * base + i
  wider_own n base [] own i b is = absurd (cc)
  wider_own n base (entry ∷ entries) own i b is =
      go (wider_own n (base + 1) entries (λ j c here. omega (arith, own (suc j) c here)))
      (goes_second spread (2 * n) entry) refl i is
    where
      parity : (t : Bool) → goes_second spread (2 * n) entry ≡ t → entry ≡ Some b →
          (entry_in spread (2 * n) b.0 % 2 == 1) ≡ t
      parity t e same = sym (ap (λ p. goes_second spread (2 * n) p) same) ∙ e

      go : ((j : ℕ) (c : ℕ × ℕ) → get_or (wider spread (2 * n) entries) j None ≡ Some c
          → entry_in spread (2 * n) c.0 ≡ 2 * (base + 1) + j)
          → (t : Bool) → goes_second spread (2 * n) entry ≡ t → (i : ℕ)
          → get_or (cond t (None ∷ entry ∷ []) (entry ∷ None ∷ []) ++ wider spread (2 * n) entries) i None ≡ Some b
          → entry_in spread (2 * n) b.0 ≡ 2 * base + i
      go rest true e zero there = absurd (cc)
      go rest true e (suc zero) there = omega (
        arith,
        own 0 b there,
        entry_half spread n b.0,
        eqb-true (entry_in spread (2 * n) b.0 % 2) 1 (parity true e there),
      )
      go rest true e (suc (suc i)) there = omega (arith, rest i b there)
      go rest false e zero there = omega (
        arith,
        own 0 b there,
        entry_half spread n b.0,
        eqb-false (entry_in spread (2 * n) b.0 % 2) 1 (parity false e there),
      )
      go rest false e (suc zero) there = absurd (cc)
      go rest false e (suc (suc i)) there = omega (arith, rest i b there)

  -- the wider table of the same blocks
  pub wider_table : (used : ℕ) (entries : List (Option (ℕ × ℕ))) → length entries ≤ 2 ^ 31 →
      IsTable spread used entries → IsTable spread used (wider spread (2 * length entries) entries)
  wider_table used entries small table = record {
    own = λ i b is. ap (λ n. entry_in spread n b.0) (wider_len (2 * length entries) entries)
        ∙ wider_own (length entries) 0 entries
        (λ j c there. table.own j c there ∙ first j) i b is ∙ double i;
    counted = table.counted ∙ ap length (sym (wider_blocks (2 * length entries) entries));
    small = omega (arith, small, wider_len (2 * length entries) entries);
  }
    where
      first : (j : ℕ) → j ≡ 0 + j
      first j = omega arith

      double : (j : ℕ) → 2 * 0 + j ≡ j
      double j = omega arith

-- what was made of a list that was gone through
pub wider_end : {A B : Type 0} (all : List A → List B) (xs : List A) (done : List B) (at : ℕ) → length xs ≤ at →
    all [] ≡ [] → done ++ all (drop at xs) ≡ all xs → done ≡ all xs
wider_end all xs done at past none before =
    sym (append-nil done) ∙ ap (λ ys. done ++ ys) (sym none ∙ ap all (sym (drop_all at xs past))) ∙ before
