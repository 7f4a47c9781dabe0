-- A table of twice as many places.
use Rattle.std.proofs.Common.{◌≡◌, ℕ, ◌+◌, ◌*◌, ◌≤◌, ◌%◌, ◌/◌, ◌^◌, zero, suc, Bool, true, false, cond, List, []}
use Rattle.std.proofs.Common.{◌∷◌, ◌++◌, ◌==◌, length, get_or, Option, Some, None, refl, sym, ap, ◌∙◌, arith, drop}
use Rattle.std.proofs.Common.{eqb-true, length-append, append-nil, subst}
use Rattle.std.proofs.lemmas.Bool.{eqb-false}
use Rattle.std.proofs.lemmas.List.{drop_all}
use Rattle.bank_state.specs.Near.{place_in, blocks_in, places_of, twice, goes_second, IsTable, IsKeyedTable}
use Rattle.bank_state.proofs.NearKeyed.{length-places}

abbrev pub key_of : Option (ℕ × List ℕ) → Option ℕ
key_of None = None
key_of (Some block) = Some block.0

abbrev pub two_places : ℕ → ℕ → Option (ℕ × List ℕ) → List (Option (ℕ × List ℕ))
two_places spread count place =
    cond (goes_second spread count (key_of place)) (None ∷ place ∷ []) (place ∷ None ∷ [])

abbrev pub wider : ℕ → ℕ → List (Option (ℕ × List ℕ)) → List (Option (ℕ × List ℕ))
wider spread count [] = []
wider spread count (place ∷ places) = two_places spread count place ++ wider spread count places

-- the same of keys alone
abbrev pub two_keys : ℕ → ℕ → Option ℕ → List (Option ℕ)
two_keys spread count key = cond (goes_second spread count key) (None ∷ key ∷ []) (key ∷ None ∷ [])

abbrev pub wider_keys : ℕ → ℕ → List (Option ℕ) → List (Option ℕ)
wider_keys spread count [] = []
wider_keys spread count (key ∷ keys) = two_keys spread count key ++ wider_keys spread count keys

-- of twice as many places a block stands at one of two
place_half : (spread n q : ℕ) → place_in spread (2 * n) q / 2 ≡ place_in spread n q
place_half spread n q = half (q * spread % 2 ^ 32 * n) (q * spread % 2 ^ 32 * (2 * n)) (grind arith)
  where
    half : (x y : ℕ) → y ≡ 2 * x → y / 2 ^ 32 / 2 ≡ x / 2 ^ 32
    half x y e = omega (arith, e)

twice_long : (bytes : List (List ℕ)) → length (twice bytes) ≡ 2 * length bytes
twice_long [] = omega arith
twice_long (b ∷ bytes) = omega (arith, twice_long bytes)

module _ (spread : ℕ) where
  pub wider_blocks : (count : ℕ) (places : List (Option (ℕ × List ℕ))) →
      blocks_in (wider spread count places) ≡ blocks_in places
  wider_blocks count [] = refl
  wider_blocks count (None ∷ places) = wider_blocks count places
  wider_blocks count (Some b ∷ places) = go (goes_second spread count (Some b.0)) (wider_blocks count places)
    where
      go : (t : Bool) → blocks_in (wider spread count places) ≡ blocks_in places
          → blocks_in (cond t (None ∷ Some b ∷ []) (Some b ∷ None ∷ []) ++ wider spread count places)
          ≡ b ∷ blocks_in places
      go true rest = ap (λ (bs : List (ℕ × List ℕ)). b ∷ bs) rest
      go false rest = ap (λ (bs : List (ℕ × List ℕ)). b ∷ bs) rest

  two_long : (count : ℕ) (place : Option (ℕ × List ℕ)) (t : Bool) →
      length (cond t (None ∷ place ∷ []) (place ∷ None ∷ [])) ≡ 2
  two_long count place true = omega arith
  two_long count place false = omega arith

  pub wider_len : (count : ℕ) (places : List (Option (ℕ × List ℕ))) → length (wider spread count places)
      ≡ 2 * length places
  wider_len count [] = omega arith
  wider_len count (place ∷ places) = omega (
    arith,
    length-append (two_places spread count place) (wider spread count places),
    two_long count place (goes_second spread count (key_of place)),
    wider_len count places,
  )

  wider_own : (n base : ℕ) (places : List (Option (ℕ × List ℕ)))
      → ((i : ℕ) (b : ℕ × List ℕ) → get_or places i None ≡ Some b → place_in spread n b.0 ≡ base + i)
      → (i : ℕ) (b : ℕ × List ℕ) → get_or (wider spread (2 * n) places) i None ≡ Some b →
      place_in spread (2 * n) b.0 ≡ 2 * base + i
  wider_own n base [] own i b is = absurd (cc)
  wider_own n base (place ∷ places) own i b is =
      go (wider_own n (base + 1) places (λ j c here. omega (arith, own (suc j) c here)))
      (goes_second spread (2 * n) (key_of place)) refl i is
    where
      parity : (t : Bool) → goes_second spread (2 * n) (key_of place) ≡ t → place ≡ Some b →
          (place_in spread (2 * n) b.0 % 2 == 1) ≡ t
      parity t e same = sym (ap (λ p. goes_second spread (2 * n) (key_of p)) same) ∙ e

      go : ((j : ℕ) (c : ℕ × List ℕ) → get_or (wider spread (2 * n) places) j None ≡ Some c
          → place_in spread (2 * n) c.0 ≡ 2 * (base + 1) + j)
          → (t : Bool) → goes_second spread (2 * n) (key_of place) ≡ t → (i : ℕ)
          → get_or (cond t (None ∷ place ∷ []) (place ∷ None ∷ []) ++ wider spread (2 * n) places) i None ≡ Some b
          → place_in spread (2 * n) b.0 ≡ 2 * base + i
      go rest true e zero there = absurd (cc)
      go rest true e (suc zero) there = omega (
        arith,
        own 0 b there,
        place_half spread n b.0,
        eqb-true (place_in spread (2 * n) b.0 % 2) 1 (parity true e there),
      )
      go rest true e (suc (suc i)) there = omega (arith, rest i b there)
      go rest false e zero there = omega (
        arith,
        own 0 b there,
        place_half spread n b.0,
        eqb-false (place_in spread (2 * n) b.0 % 2) 1 (parity false e there),
      )
      go rest false e (suc zero) there = absurd (cc)
      go rest false e (suc (suc i)) there = omega (arith, rest i b there)

  -- the wider table of the same blocks
  pub wider_table : (used : ℕ) (places : List (Option (ℕ × List ℕ))) → length places ≤ 2 ^ 31 →
      IsTable spread used places → IsTable spread used (wider spread (2 * length places) places)
  wider_table used places small table = record {
    own = λ i b is. ap (λ n. place_in spread n b.0) (wider_len (2 * length places) places)
        ∙ wider_own (length places) 0 places
        (λ j c there. table.own j c there ∙ first j) i b is ∙ double i;
    counted = table.counted ∙ ap length (sym (wider_blocks (2 * length places) places));
    small = omega (arith, small, wider_len (2 * length places) places);
  }
    where
      first : (j : ℕ) → j ≡ 0 + j
      first j = omega arith

      double : (j : ℕ) → 2 * 0 + j ≡ j
      double j = omega arith

  -- ---- the keys and the bytes of the wider table

  pub keyed_places : (count : ℕ) (keys : List (Option ℕ)) (bytes : List (List ℕ)) →
      places_of (wider_keys spread count keys) (twice bytes) ≡ wider spread count (places_of keys bytes)
  keyed_places count [] bytes = refl
  keyed_places count (key ∷ keys) [] = go (goes_second spread count key)
    where
      go : (t : Bool) → places_of (cond t (None ∷ key ∷ []) (key ∷ None ∷ []) ++ wider_keys spread count keys) [] ≡ []
      go true = refl
      go false = refl
  keyed_places count (None ∷ keys) (b ∷ bytes) =
      ap (λ (ps : List (Option (ℕ × List ℕ))). None ∷ None ∷ ps) (keyed_places count keys bytes)
  keyed_places count (Some block ∷ keys) (b ∷ bytes) =
      go (goes_second spread count (Some block)) (keyed_places count keys bytes)
    where
      go : (t : Bool)
          → places_of (wider_keys spread count keys) (twice bytes) ≡ wider spread count (places_of keys bytes)
          → places_of (cond t (None ∷ Some block ∷ []) (Some block ∷ None ∷ []) ++ wider_keys spread count keys)
          (b ∷ b ∷ twice bytes)
          ≡ cond t (None ∷ Some (block, b) ∷ []) (Some (block, b) ∷ None ∷ [])
          ++ wider spread count (places_of keys bytes)
      go true rest = ap (λ (ps : List (Option (ℕ × List ℕ))). None ∷ Some (block, b) ∷ ps) rest
      go false rest = ap (λ (ps : List (Option (ℕ × List ℕ))). Some (block, b) ∷ None ∷ ps) rest

  keys_long : (count : ℕ) (keys : List (Option ℕ)) → length (wider_keys spread count keys) ≡ 2 * length keys
  keys_long count [] = omega arith
  keys_long count (key ∷ keys) = go (goes_second spread count key) (keys_long count keys)
    where
      go : (t : Bool) → length (wider_keys spread count keys) ≡ 2 * length keys
          → length (cond t (None ∷ key ∷ []) (key ∷ None ∷ []) ++ wider_keys spread count keys)
          ≡ 2 * length (key ∷ keys)
      go true rest = omega (arith, rest)
      go false rest = omega (arith, rest)

  pub keyed_blocks : (count : ℕ) (keys : List (Option ℕ)) (bytes : List (List ℕ)) →
      blocks_in (places_of (wider_keys spread count keys) (twice bytes)) ≡ blocks_in (places_of keys bytes)
  keyed_blocks count keys bytes =
      ap blocks_in (keyed_places count keys bytes) ∙ wider_blocks count (places_of keys bytes)

  pub keyed_table : (used : ℕ) (keys : List (Option ℕ)) (bytes : List (List ℕ)) → length keys ≤ 2 ^ 31 →
      IsKeyedTable spread used keys bytes
      → IsKeyedTable spread used (wider_keys spread (2 * length keys) keys) (twice bytes)
  keyed_table used keys bytes small keyed = record {
    even = omega (arith, keyed.even, keys_long (2 * length keys) keys, twice_long bytes);
    table = subst (IsTable spread used) (sym made)
        (wider_table used (places_of keys bytes) (omega (arith, small, long)) keyed.table);
  }
    where
      long : length (places_of keys bytes) ≡ length keys
      long = length-places keys bytes keyed.even

      made : places_of (wider_keys spread (2 * length keys) keys) (twice bytes)
          ≡ wider spread (2 * length (places_of keys bytes)) (places_of keys bytes)
      made = keyed_places (2 * length keys) keys bytes
          ∙ ap (λ n. wider spread (2 * n) (places_of keys bytes)) (sym long)

-- what was made of a list that was gone through
pub wider_end : {A : Type 0} (all : List A → List A) (xs done : List A) (at : ℕ) → length xs ≤ at → all [] ≡ [] →
    done ++ all (drop at xs) ≡ all xs → done ≡ all xs
wider_end all xs done at past none before =
    sym (append-nil done) ∙ ap (λ ys. done ++ ys) (sym none ∙ ap all (sym (drop_all at xs past))) ∙ before
