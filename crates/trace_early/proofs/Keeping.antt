-- What chunks keep where one of them changes.
use Rattle.std.proofs.Common.{◌≡◌, ℕ, ◌+◌, ◌-◌, ◌*◌, ◌<◌, zero, suc, Bool, cond, List, [], ◌∷◌}
use Rattle.std.proofs.Common.{◌++◌, length, get_or, set, refl, sym, ap, ◌∙◌, subst, ⊎_elim, ◌⊎◌, arith, ◌==◌, All}
use Rattle.std.proofs.Common.{count_by, get_or-set_same, get_or-set_other}
use Rattle.std.proofs.lemmas.List.{get_or_read}
use Rattle.std.proofs.lemmas.List.Elements.{All-nil, All-cons, All-head, All-tail, All-weaker}
use Rattle.std.proofs.lemmas.List.Sums.{sum_by-cons}
use Rattle.std.proofs.lemmas.Bool.{cases_eq}
use Rattle.std.specs.List.Sorted.{IsPermutation}
use Rattle.std.proofs.lemmas.List.Sorted.{IsPermutation-middle, All-permutation, sum_by-IsPermutation}
use Rattle.std.proofs.lemmas.Bool.Decides.{nat_tests}
use Rattle.trace_early.specs.Kept.{IsAt, Keeps, KeepsOn, StandsIn, chunk_of, start_of, bytes_in, count_in}

abbrev pub is_in : ℕ → ℕ × List ℕ → Bool
is_in chunk e = chunk_of e.0 == chunk

pub keeps_none : Keeps [] []
keeps_none = record { each = All-nil (StandsIn []); counted = λ chunk. refl }

-- what stands in a chunk stands in one that there is
in_one : (chunks : List (List ℕ × ℕ)) (chunk : ℕ) → 0 < length (bytes_in chunks chunk) → chunk < length chunks
in_one [] chunk some = absurd (omega arith)
in_one (c ∷ chunks) zero some = omega arith
in_one (c ∷ chunks) (suc chunk) some = omega (arith, in_one chunks chunk some)

pub stands_in_one : (chunks : List (List ℕ × ℕ)) (e : ℕ × List ℕ) → StandsIn chunks e → chunk_of e.0 < length chunks
stands_in_one chunks e stands = in_one chunks (chunk_of e.0) (omega (arith, stands.within))

-- a chunk that counts none keeps none
count_cons : (chunk : ℕ) (e : ℕ × List ℕ) (kept : List (ℕ × List ℕ))
    → count_by (is_in chunk) (e ∷ kept) ≡ cond (is_in chunk e) 1 0 + count_by (is_in chunk) kept
count_cons chunk e kept = sum_by-cons (λ x. cond (is_in chunk x) 1 0) e kept

count_own : (chunk : ℕ) (e : ℕ × List ℕ) (kept : List (ℕ × List ℕ)) → chunk_of e.0 ≡ chunk
    → count_by (is_in chunk) (e ∷ kept) ≡ 1 + count_by (is_in chunk) kept
count_own chunk e kept own = grind (arith, nat_tests, count_cons chunk e kept)

count_other : (chunk : ℕ) (e : ℕ × List ℕ) (kept : List (ℕ × List ℕ)) → (chunk_of e.0 ≡ chunk → ⊥)
    → count_by (is_in chunk) (e ∷ kept) ≡ count_by (is_in chunk) kept
count_other chunk e kept other = grind (arith, nat_tests, count_cons chunk e kept)

none_in : (chunk : ℕ) (kept : List (ℕ × List ℕ)) → count_by (is_in chunk) kept ≡ 0
    → All (λ e. chunk_of e.0 ≡ chunk → ⊥) kept
none_in chunk [] none = All-nil (λ (e : ℕ × List ℕ). chunk_of e.0 ≡ chunk → ⊥)
none_in chunk (e ∷ kept) none = All-cons (λ (e : ℕ × List ℕ). chunk_of e.0 ≡ chunk → ⊥) e kept
    (λ own. absurd (omega (arith, count_own chunk e kept own)))
    (none_in chunk kept (omega (arith, count_cons chunk e kept)))

-- ---- one chunk changes

module _ (chunks : List (List ℕ × ℕ)) (chunk : ℕ) (now : List ℕ × ℕ) (there : chunk < length chunks) where
  in_own : (k : ℕ) → k ≡ chunk → get_or (set chunks chunk now) k ([], 0) ≡ now
  in_own k is = ap (λ n. get_or (set chunks chunk now) n ([], 0)) is ∙ get_or-set_same chunks chunk now ([], 0) there

  in_other : (k : ℕ) → (k ≡ chunk → ⊥) → get_or (set chunks chunk now) k ([], 0) ≡ get_or chunks k ([], 0)
  in_other k not = get_or-set_other chunks chunk k now ([], 0) not

  stands_other : (e : ℕ × List ℕ) → (chunk_of e.0 ≡ chunk → ⊥) → StandsIn chunks e → StandsIn (set chunks chunk now) e
  stands_other e not stands = subst (λ (c : List ℕ × ℕ). IsAt c.0 (start_of e.0) e.1)
      (sym (in_other (chunk_of e.0) not)) stands

  stands_own : (e : ℕ × List ℕ) → chunk_of e.0 ≡ chunk → IsAt now.0 (start_of e.0) e.1
      → StandsIn (set chunks chunk now) e
  stands_own e is stands = subst (λ (c : List ℕ × ℕ). IsAt c.0 (start_of e.0) e.1)
      (sym (in_own (chunk_of e.0) is)) stands

  -- all that stood in the chunk stands there
  abbrev Stays : Type 0
  Stays = (start : ℕ) (item : List ℕ) → IsAt (bytes_in chunks chunk) start item → IsAt now.0 start item

  all_stay : Stays → (e : ℕ × List ℕ) → StandsIn chunks e → StandsIn (set chunks chunk now) e
  all_stay stays e stands = ⊎_elim
      (λ (is : chunk_of e.0 ≡ chunk). stands_own e is
      (stays (start_of e.0) e.1 (subst (λ (k : ℕ). IsAt (bytes_in chunks k) (start_of e.0) e.1) is stands)))
      (λ (not : chunk_of e.0 ≡ chunk → ⊥). stands_other e not stands)
      (cases_eq (chunk_of e.0) chunk)

  count_at : (n : ℕ → ℕ) → n chunk ≡ now.1 → ((k : ℕ) → (k ≡ chunk → ⊥) → n k ≡ count_in chunks k)
      → (k : ℕ) → n k ≡ count_in (set chunks chunk now) k
  count_at n own others k = ⊎_elim
      (λ (is : k ≡ chunk). ap n is ∙ own ∙ sym (ap (λ (c : List ℕ × ℕ). c.1) (in_own k is)))
      (λ (not : k ≡ chunk → ⊥). others k not ∙ sym (ap (λ (c : List ℕ × ℕ). c.1) (in_other k not)))
      (cases_eq k chunk)

  -- an item more
  pub keeps_one_more : Stays → now.1 ≡ count_in chunks chunk + 1 → (place : ℕ) (item : List ℕ) → chunk_of place ≡ chunk
      → IsAt now.0 (start_of place) item → (kept : List (ℕ × List ℕ)) → Keeps chunks kept
      → Keeps (set chunks chunk now) ((place, item) ∷ kept)
  keeps_one_more stays more place item is stands kept keeps = record {
    each = All-cons (StandsIn (set chunks chunk now)) (place, item) kept (stands_own (place, item) is stands)
        (All-weaker (StandsIn chunks) (StandsIn (set chunks chunk now)) (all_stay stays) kept keeps.each);
    counted = count_at (λ k. count_by (is_in k) ((place, item) ∷ kept))
        (omega (arith, count_own chunk (place, item) kept is, keeps.counted chunk))
        (λ k not. count_other k (place, item) kept (λ e. not (sym e ∙ is)) ∙ keeps.counted k);
  }

  -- a chunk that keeps none holds anything
  only_others : (kept : List (ℕ × List ℕ)) → All (StandsIn chunks) kept → count_by (is_in chunk) kept ≡ 0
      → All (StandsIn (set chunks chunk now)) kept
  only_others kept each none k d below =
      stands_other (get_or kept k d) (none_in chunk kept none k d below) (each k d below)

  pub keeps_on_where_none : count_in chunks chunk ≡ 0 → now.1 ≡ 0 → KeepsOn chunks (set chunks chunk now)
  keeps_on_where_none was is kept keeps = record {
    each = only_others kept keeps.each (keeps.counted chunk ∙ was);
    counted = count_at (λ k. count_by (is_in k) kept) (keeps.counted chunk ∙ was ∙ sym is) (λ k not. keeps.counted k);
  }

  -- an item less
  pub keeps_one_less : (place : ℕ) (item : List ℕ) → chunk_of place ≡ chunk → now.1 ≡ count_in chunks chunk - 1
      → (1 < count_in chunks chunk → now.0 ≡ bytes_in chunks chunk) → (kept : List (ℕ × List ℕ))
      → Keeps chunks ((place, item) ∷ kept) → Keeps (set chunks chunk now) kept
  keeps_one_less place item is less same kept keeps = record {
    each = each_left (cases_eq now.1 0);
    counted = count_at (λ k. count_by (is_in k) kept)
        (omega (arith, count_own chunk (place, item) kept is, keeps.counted chunk))
        (λ k not. sym (count_other k (place, item) kept (λ e. not (sym e ∙ is))) ∙ keeps.counted k);
  }
    where
      left : All (StandsIn chunks) kept
      left = All-tail (StandsIn chunks) (place, item) kept keeps.each

      each_left : (now.1 ≡ 0) ⊎ (now.1 ≡ 0 → ⊥) → All (StandsIn (set chunks chunk now)) kept
      each_left = ⊎_elim
          (λ (none : now.1 ≡ 0). only_others kept left
          (omega (arith, count_own chunk (place, item) kept is, keeps.counted chunk)))
          (λ (some : now.1 ≡ 0 → ⊥). All-weaker (StandsIn chunks) (StandsIn (set chunks chunk now))
          (all_stay (λ start other stands. subst (λ (bytes : List ℕ). IsAt bytes start other)
          (sym (same (omega arith))) stands)) kept left)

-- ---- a chunk more

pub keeps_on_with_one_more : (chunks : List (List ℕ × ℕ)) → KeepsOn chunks (chunks ++ ([], 0) ∷ [])
keeps_on_with_one_more chunks kept keeps = record {
  each = All-weaker (StandsIn chunks) (StandsIn (chunks ++ ([], 0) ∷ []))
      (λ e stands. subst (λ (c : List ℕ × ℕ). IsAt c.0 (start_of e.0) e.1) (sym (same chunks (chunk_of e.0))) stands)
      kept keeps.each;
  counted = λ k. keeps.counted k ∙ sym (ap (λ (c : List ℕ × ℕ). c.1) (same chunks k));
}
  where
    same : (cs : List (List ℕ × ℕ)) (k : ℕ) → get_or (cs ++ ([], 0) ∷ []) k ([], 0) ≡ get_or cs k ([], 0)
    same [] zero = refl
    same [] (suc k) = refl
    same (c ∷ cs) zero = refl
    same (c ∷ cs) (suc k) = same cs k

-- ---- one goes, as the code reads its chunk

pub goes_from : (chunks : List (List ℕ × ℕ)) (chunk place : ℕ) → chunk ≡ chunk_of place → (item : List ℕ)
    (kept : List (ℕ × List ℕ)) → Keeps chunks ((place, item) ∷ kept) → chunk < length chunks
goes_from chunks chunk place is item kept keeps = subst (λ (k : ℕ). k < length chunks) (sym is)
    (stands_in_one chunks (place, item) (All-head (StandsIn chunks) (place, item) kept keeps.each))

module _ (chunks : List (List ℕ × ℕ)) (chunk place : ℕ) (was : List ℕ × ℕ) (is : chunk ≡ chunk_of place)
    (read : was ≡ get_or chunks chunk was) (item : List ℕ) (kept : List (ℕ × List ℕ))
    (keeps : Keeps chunks ((place, item) ∷ kept)) where
  goes_from_one : chunk < length chunks
  goes_from_one = goes_from chunks chunk place is item kept keeps

  was_there : was ≡ get_or chunks chunk ([], 0)
  was_there = get_or_read chunks chunk was goes_from_one read ([], 0)

  counts : was.1 ≡ 1 + count_by (is_in chunk) kept
  counts = ap (λ (c : List ℕ × ℕ). c.1) was_there ∙ sym (keeps.counted chunk)
      ∙ count_own chunk (place, item) kept (sym is)

  pub counts_some : 0 < was.1
  counts_some = omega (arith, counts)

  pub keeps_the_rest : (now : List ℕ × ℕ) → now.1 ≡ was.1 - 1 → (1 < was.1 → now.0 ≡ was.0)
      → Keeps (set chunks chunk now) kept
  keeps_the_rest now less same =
      let count : was.1 ≡ count_in chunks chunk = ap (λ (c : List ℕ × ℕ). c.1) was_there in
      let bytes : was.0 ≡ bytes_in chunks chunk = ap (λ (c : List ℕ × ℕ). c.0) was_there in
      keeps_one_less chunks chunk now goes_from_one place item (sym is) (omega arith)
      (λ many. same (omega arith) ∙ bytes) kept keeps

-- ---- one comes, as the code reads its chunk

module _ (chunks : List (List ℕ × ℕ)) (chunk : ℕ) (was now : List ℕ × ℕ) (there : chunk < length chunks)
    (read : was ≡ get_or chunks chunk was)
    (stays : (start : ℕ) (other : List ℕ) → IsAt was.0 start other → IsAt now.0 start other) where
  read_there : was ≡ get_or chunks chunk ([], 0)
  read_there = get_or_read chunks chunk was there read ([], 0)

  stays_there : (start : ℕ) (other : List ℕ) → IsAt (bytes_in chunks chunk) start other → IsAt now.0 start other
  stays_there start other stands = stays start other
      (subst (λ (c : List ℕ × ℕ). IsAt c.0 start other) (sym read_there) stands)

  count_there : was.1 ≡ count_in chunks chunk
  count_there = ap (λ (c : List ℕ × ℕ). c.1) read_there

  pub keeps_what_is_put : now.1 ≡ was.1 + 1 → (place step : ℕ) (item : List ℕ) → place ≡ 16384 * chunk + step
      → step < 16384 → IsAt now.0 (4 * step) item → (kept : List (ℕ × List ℕ)) → Keeps chunks kept
      → Keeps (set chunks chunk now) ((place, item) ∷ kept)
  keeps_what_is_put more place step item is below stands =
      let of_chunk : chunk_of place ≡ chunk = omega arith in
      let of_start : 4 * step ≡ start_of place = omega arith in
      keeps_one_more chunks chunk now there stays_there (omega (arith, count_there)) place item of_chunk
      (subst (λ (start : ℕ). IsAt now.0 start item) of_start stands)

-- ---- the order does not matter

pub Keeps-permutation : (chunks : List (List ℕ × ℕ)) (kept other : List (ℕ × List ℕ)) → IsPermutation kept other
    → Keeps chunks kept → Keeps chunks other
Keeps-permutation chunks kept other same keeps = record {
  each = All-permutation (StandsIn chunks) kept other same keeps.each;
  counted = λ k. sum_by-IsPermutation (λ e. cond (is_in k e) 1 0) kept other same ∙ keeps.counted k;
}

pub keeps_swapped : (chunks : List (List ℕ × ℕ)) (e f : ℕ × List ℕ) (kept : List (ℕ × List ℕ))
    → Keeps chunks (e ∷ f ∷ kept) → Keeps chunks (f ∷ e ∷ kept)
keeps_swapped chunks e f kept = Keeps-permutation chunks (e ∷ f ∷ kept) (f ∷ e ∷ kept)
    (IsPermutation-middle (e ∷ []) f kept)
