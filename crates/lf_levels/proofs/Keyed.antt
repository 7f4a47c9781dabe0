-- The ways that keys give, each with what is dirty of it.
use Rattle.std.proofs.Common.{ℕ, zero, suc, ◌≡◌, Bool, true, List, [], ◌∷◌, length, replicate}
use Rattle.std.proofs.Common.{get_or, Option, Some, None, refl, sym, ap, ◌∙◌, arith, eqb-true}
use Rattle.std.specs.Prelude.{slice_set}
use Rattle.std.proofs.lemmas.List.{set-get_or}
use Rattle.lf_levels.specs.Rows.{Line, is_free, is_key, is_same, is_on, way_of, rows_of, FindsWay}
use Rattle.lf_levels.proofs.InWays.{all_free}

-- the key of a block's line
pub key_is : (block : ℕ) (key : Option ℕ) → is_key block key ≡ true → key ≡ Some block
key_is block None e = absurd (cc e)
key_is block (Some other) e = ap Some (eqb-true other block e)

-- a key that is wanted for a block, and one that is wanted for no line
pub same_key : (block : ℕ) (key : Option ℕ) → is_same (Some block) key ≡ is_key block key
same_key block None = refl
same_key block (Some other) = refl

pub same_free : (key : Option ℕ) → is_same None key ≡ is_free key
same_free None = refl
same_free (Some other) = refl

module _ {M : Type 0} where
  pub length-rows : (keys : List (Option ℕ)) (dirty : List M) → length dirty ≡ length keys →
      length (rows_of keys dirty) ≡ length keys
  length-rows [] dirty even = refl
  length-rows (key ∷ keys) [] even = absurd (omega (arith, even))
  length-rows (key ∷ keys) (d ∷ dirty) even = ap suc (length-rows keys dirty (omega (arith, even)))

  pub rows_at : (keys : List (Option ℕ)) (dirty : List M) (i : ℕ) (d : M) → length dirty ≡ length keys →
      get_or (rows_of keys dirty) i None ≡ way_of (get_or keys i None) (get_or dirty i d)
  rows_at [] dirty i d even = refl
  rows_at (key ∷ keys) [] i d even = absurd (omega (arith, even))
  rows_at (key ∷ keys) (e ∷ dirty) zero d even = refl
  rows_at (key ∷ keys) (e ∷ dirty) (suc i) d even = rows_at keys dirty i d (omega (arith, even))

  -- ---- a way that changes

  pub rows-set : (keys : List (Option ℕ)) (dirty : List M) (i : ℕ) (key : Option ℕ) (d : M) →
      rows_of (slice_set keys i key) (slice_set dirty i d) ≡ slice_set (rows_of keys dirty) i (way_of key d)
  rows-set [] dirty i key d = refl
  rows-set (k ∷ keys) [] zero key d = refl
  rows-set (k ∷ keys) [] (suc i) key d = refl
  rows-set (k ∷ keys) (e ∷ dirty) zero key d = refl
  rows-set (k ∷ keys) (e ∷ dirty) (suc i) key d = ap (λ (rows : List (Option (Line M))). way_of k e ∷ rows)
      (rows-set keys dirty i key d)

  pub rows-free : (keys : List (Option ℕ)) (dirty : List M) (i : ℕ) →
      rows_of (slice_set keys i None) dirty ≡ slice_set (rows_of keys dirty) i None
  rows-free [] dirty i = refl
  rows-free (k ∷ keys) [] zero = refl
  rows-free (k ∷ keys) [] (suc i) = refl
  rows-free (k ∷ keys) (e ∷ dirty) zero = refl
  rows-free (k ∷ keys) (e ∷ dirty) (suc i) = ap (λ (rows : List (Option (Line M))). way_of k e ∷ rows)
      (rows-free keys dirty i)

  pub rows-dirty : (keys : List (Option ℕ)) (dirty : List M) (i : ℕ) (d : M) →
      rows_of keys (slice_set dirty i d) ≡ slice_set (rows_of keys dirty) i (way_of (get_or keys i None) d)
  rows-dirty keys dirty i d =
      ap (λ ks. rows_of ks (slice_set dirty i d)) (sym (set-get_or keys i None))
      ∙ rows-set keys dirty i (get_or keys i None) d

  pub rows-replicate : (n : ℕ) (dirty : List M) → length dirty ≡ n → rows_of (replicate n None) dirty ≡ all_free n
  rows-replicate zero dirty e = refl
  rows-replicate (suc n) [] e = absurd (omega (arith, e))
  rows-replicate (suc n) (d ∷ dirty) e = ap (λ (rows : List (Option (Line M))). None ∷ rows)
      (rows-replicate n dirty (omega (arith, e)))

  -- ---- a test of a key says the same of its way

  pub on_key : (block : ℕ) (key : Option ℕ) (d : M) → is_on block (way_of key d) ≡ is_key block key
  on_key block None d = refl
  on_key block (Some other) d = refl

  pub free_key : (key : Option ℕ) (d : M) → is_free (way_of key d) ≡ is_free key
  free_key None d = refl
  free_key (Some block) d = refl

  module _ (test : Option (Line M) → Bool) (of_key : Option ℕ → Bool)
      (same : (key : Option ℕ) (d : M) → test (way_of key d) ≡ of_key key) (none : test None ≡ of_key None) where
    test_at : (keys : List (Option ℕ)) (dirty : List M) (i : ℕ) → length dirty ≡ length keys →
        test (get_or (rows_of keys dirty) i None) ≡ of_key (get_or keys i None)
    test_at [] dirty i even = none
    test_at (key ∷ keys) [] i even = absurd (omega (arith, even))
    test_at (key ∷ keys) (d ∷ dirty) zero even = same key d
    test_at (key ∷ keys) (d ∷ dirty) (suc i) even = test_at keys dirty i (omega (arith, even))

    pub finds_way : (keys : List (Option ℕ)) (dirty : List M) (from count : ℕ) (result : Option ℕ) →
        length dirty ≡ length keys → FindsWay of_key keys from count result →
        FindsWay test (rows_of keys dirty) from count result
    finds_way keys dirty from count None even found =
        λ place low high. test_at keys dirty place even ∙ found place low high
    finds_way keys dirty from count (Some way) even found =
        (found.0, found.1, test_at keys dirty way even ∙ found.2)
