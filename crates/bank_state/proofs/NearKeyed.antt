-- The places that keys give, each with its bytes.
use Rattle.std.proofs.Common.{◌≡◌, ℕ, ◌+◌, ◌<◌, ◌≤◌, ◌^◌, zero, suc, List, [], ◌∷◌, length, get_or, Option, Some, None}
use Rattle.std.proofs.Common.{refl, sym, ap, ◌∙◌, arith, set, replicate, subst, length-set}
use Rattle.std.proofs.lemmas.List.{set-get_or, get_or_read, length-replicate}
use Rattle.bank_state.specs.Near.{place_in, place_of, places_of, blocks_in, IsTable, IsKeyedTable, IsWith}
use Rattle.bank_state.proofs.NearBlocks.{at, is_there, not_there, count_within, IsAtPlace, new_table, same_table}
use Rattle.bank_state.proofs.NearBlocks.{after_new, after_same}

-- ---- the places

pub length-places : (keys : List (Option ℕ)) (bytes : List (List ℕ)) → length bytes ≡ length keys →
    length (places_of keys bytes) ≡ length keys
length-places [] bytes even = refl
length-places (key ∷ keys) [] even = absurd (omega (arith, even))
length-places (key ∷ keys) (b ∷ bytes) even = ap suc (length-places keys bytes (omega (arith, even)))

-- what stands at a place
places_at : (keys : List (Option ℕ)) (bytes : List (List ℕ)) (i : ℕ) (b : List ℕ) → length bytes ≡ length keys →
    get_or (places_of keys bytes) i None ≡ place_of (get_or keys i None) (get_or bytes i b)
places_at [] bytes i b even = refl
places_at (key ∷ keys) [] i b even = absurd (omega (arith, even))
places_at (key ∷ keys) (c ∷ bytes) zero b even = refl
places_at (key ∷ keys) (c ∷ bytes) (suc i) b even = places_at keys bytes i b (omega (arith, even))

-- a place that gets another key and other bytes
places-set : (keys : List (Option ℕ)) (bytes : List (List ℕ)) (i : ℕ) (key : Option ℕ) (b : List ℕ) →
    places_of (set keys i key) (set bytes i b) ≡ set (places_of keys bytes) i (place_of key b)
places-set [] bytes i key b = refl
places-set (k ∷ keys) [] zero key b = refl
places-set (k ∷ keys) [] (suc i) key b = refl
places-set (k ∷ keys) (c ∷ bytes) zero key b = refl
places-set (k ∷ keys) (c ∷ bytes) (suc i) key b =
    ap (λ (ps : List (Option (ℕ × List ℕ))). place_of k c ∷ ps) (places-set keys bytes i key b)

-- a place has a key only if there is such a place
pub within_keys : (keys : List (Option ℕ)) (i block : ℕ) → get_or keys i None ≡ Some block → i < length keys
within_keys [] i block is = absurd (cc)
within_keys (key ∷ keys) zero block is = omega arith
within_keys (key ∷ keys) (suc i) block is = omega (arith, within_keys keys i block is)

-- places without keys have no blocks
pub no_blocks : (n : ℕ) (bytes : List (List ℕ)) → blocks_in (places_of (replicate n None) bytes) ≡ []
no_blocks zero bytes = refl
no_blocks (suc n) [] = refl
no_blocks (suc n) (b ∷ bytes) = no_blocks n bytes

free_at : (n : ℕ) (bytes : List (List ℕ)) (i : ℕ) → get_or (places_of (replicate n None) bytes) i None ≡ None
free_at zero bytes i = refl
free_at (suc n) [] i = refl
free_at (suc n) (b ∷ bytes) zero = refl
free_at (suc n) (b ∷ bytes) (suc i) = free_at n bytes i

-- they are a table
pub free_table : (spread used n : ℕ) (keys : List (Option ℕ)) (bytes : List (List ℕ)) → keys ≡ replicate n None →
    n ≤ 2 ^ 32 → length bytes ≡ n → used ≡ 0 → IsKeyedTable spread used keys bytes
free_table spread used n keys bytes free small even none = record {
  even = even ∙ sym all;
  table = record {
    own = λ i b is.
        let no : None ≡ Some b = sym (ap (λ (ks : List (Option ℕ)). get_or (places_of ks bytes) i None) free
        ∙ free_at n bytes i) ∙ is in absurd (cc);
    counted = none ∙ sym (ap (λ (ks : List (Option ℕ)). length (blocks_in (places_of ks bytes))) free
        ∙ ap length (no_blocks n bytes));
    small = omega (arith, small, all, length-places keys bytes (even ∙ sym all));
  };
}
  where
    all : length keys ≡ n
    all = ap length free ∙ length-replicate n None

-- ---- a table

-- a block's place, by the number of keys
pub leads_to : {count long i : ℕ} (spread : ℕ) (keys : List (Option ℕ)) (block : ℕ) → long ≡ length keys →
    count ≡ long → i ≡ place_in spread count block → i ≡ place_in spread (length keys) block
leads_to spread keys block whole all is = is ∙ ap (λ n. place_in spread n block) (all ∙ whole)

-- the key that was read at a place
pub key_at : {end long i : ℕ} (keys : List (Option ℕ)) (key : Option ℕ) → long ≡ length keys → end ≡ long → i < end →
    key ≡ get_or keys i key → (i < length keys) × (get_or keys i None ≡ key)
key_at {i = i} keys key whole same inside read =
    let below : i < length keys = omega (arith, whole, same, inside) in
    (below, sym (get_or_read keys i key below read None))

module _ (spread used : ℕ) (keys : List (Option ℕ)) (bytes : List (List ℕ)) (keyed : IsKeyedTable spread used keys
    bytes) where
  long : length (places_of keys bytes) ≡ length keys
  long = length-places keys bytes keyed.even

  pub few : length keys ≤ 2 ^ 32
  few = omega (arith, keyed.table.small, long)

  pub used_within : used ≤ length keys
  used_within = omega (arith, keyed.table.counted, count_within (places_of keys bytes), long)

  module _ (block i : ℕ) (leads : i ≡ place_in spread (length keys) block) where
    leads_there : i ≡ place_in spread (length (places_of keys bytes)) block
    leads_there = leads ∙ ap (λ n. place_in spread n block) (sym long)

    -- the block stands at its place
    pub here : (b : List ℕ) → get_or keys i None ≡ Some block →
        at block (blocks_in (places_of keys bytes)) ≡ Some (get_or bytes i b)
    here b is = is_there spread used (places_of keys bytes) keyed.table block i (block, get_or bytes i b)
        (places_at keys bytes i b keyed.even ∙ ap (λ k. place_of k (get_or bytes i b)) is) refl

    -- another block, or none, stands at its place
    pub elsewhere : (get_or keys i None ≡ Some block → ⊥) → at block (blocks_in (places_of keys bytes)) ≡ None
    elsewhere not = not_there spread used (places_of keys bytes) keyed.table block i
        (place_of (get_or keys i None) (get_or bytes i [])) leads_there (places_at keys bytes i [] keyed.even)
        (λ b is own. not (key_is (get_or keys i None) (get_or bytes i []) b is ∙ ap Some own))
      where
        key_is : (key : Option ℕ) (c : List ℕ) (b : ℕ × List ℕ) → place_of key c ≡ Some b → key ≡ Some b.0
        key_is None c b is = absurd (cc)
        key_is (Some k) c b is =
            let same : (k, c) ≡ b = cc in ap (λ (x : ℕ × List ℕ). Some x.0) same

    -- new bytes come to the block's place
    module _ (within : i < length keys) (b : List ℕ) where
      made : places_of (set keys i (Some block)) (set bytes i b) ≡ set (places_of keys bytes) i (Some (block, b))
      made = places-set keys bytes i (Some block) b

      even_after : length (set bytes i b) ≡ length (set keys i (Some block))
      even_after = length-set bytes i b ∙ keyed.even ∙ sym (length-set keys i (Some block))

      placed : (key : Option ℕ) → get_or keys i None ≡ key →
          IsAtPlace spread (places_of keys bytes) block i (place_of key (get_or bytes i []))
      placed key is = record {
        leads = leads_there;
        within = omega (arith, within, long);
        here = places_at keys bytes i [] keyed.even ∙ ap (λ k. place_of k (get_or bytes i [])) is;
      }

      pub new_keyed : get_or keys i None ≡ None →
          IsKeyedTable spread (used + 1) (set keys i (Some block)) (set bytes i b)
      new_keyed free = record {
        even = even_after;
        table = subst (IsTable spread (used + 1)) (sym made)
            (new_table spread used (places_of keys bytes) keyed.table i (block, b) None (placed None free) refl);
      }

      pub with_new : get_or keys i None ≡ None → IsWith (blocks_in (places_of keys bytes)) block b
          (blocks_in (places_of (set keys i (Some block)) (set bytes i b)))
      with_new free = λ q. ap (λ (ps : List (Option (ℕ × List ℕ))). at q (blocks_in ps)) made
          ∙ after_new spread used (places_of keys bytes) keyed.table i (block, b) None (placed None free) refl q

      pub same_keyed : get_or keys i None ≡ Some block →
          IsKeyedTable spread used (set keys i (Some block)) (set bytes i b)
      same_keyed taken = record {
        even = even_after;
        table = subst (IsTable spread used) (sym made) (same_table spread used (places_of keys bytes) keyed.table i
            (block, b) (Some (block, get_or bytes i [])) (placed (Some block) taken) (block, get_or bytes i []) refl);
      }

      pub with_same : get_or keys i None ≡ Some block → IsWith (blocks_in (places_of keys bytes)) block b
          (blocks_in (places_of (set keys i (Some block)) (set bytes i b)))
      with_same taken = λ q. ap (λ (ps : List (Option (ℕ × List ℕ))). at q (blocks_in ps)) made
          ∙ after_same spread used (places_of keys bytes) keyed.table i (block, b)
          (Some (block, get_or bytes i [])) (placed (Some block) taken) (block, get_or bytes i []) refl refl q

      -- the key stays as it is
      same_keys : get_or keys i None ≡ Some block → set keys i (Some block) ≡ keys
      same_keys taken = ap (set keys i) (sym taken) ∙ set-get_or keys i None

      pub rewritten_keyed : get_or keys i None ≡ Some block → IsKeyedTable spread used keys (set bytes i b)
      rewritten_keyed taken = subst (λ (ks : List (Option ℕ)). IsKeyedTable spread used ks (set bytes i b))
          (same_keys taken) (same_keyed taken)

      pub with_rewritten : get_or keys i None ≡ Some block → IsWith (blocks_in (places_of keys bytes)) block b
          (blocks_in (places_of keys (set bytes i b)))
      with_rewritten taken = subst (λ (ks : List (Option ℕ)). IsWith (blocks_in (places_of keys bytes)) block b
          (blocks_in (places_of ks (set bytes i b)))) (same_keys taken) (with_same taken)
