-- What stands at the entries of a table.
use Rattle.std.proofs.Common.{◌≡◌, ◌≢◌, ℕ, ◌+◌, ◌-◌, ◌*◌, ◌<◌, ◌≤◌, ◌^◌, zero, suc, List, [], ◌∷◌, length}
use Rattle.std.proofs.Common.{get_or, set, map, replicate, Option, Some, None, refl, sym, ap, subst, ◌∙◌, arith}
use Rattle.std.proofs.lemmas.List.{get_or-map, get_or_past, length-map}
use Rattle.bank_cells.specs.declared.table.Entry.{Entry}
use Rattle.bank_cells.specs.Index.{found_in, entry_in, blocks_in, place_below, stands_in, IsTable, IsWith}
use Rattle.bank_cells.proofs.Found.{is_there, not_there, count_within, IsAtEntry, new_table, after_new}
use Rattle.bank_cells.proofs.Wider.{wider, wider_blocks, wider_table}

-- ---- one entry

-- what a block with its place says of the entry where it stands
taken_block : (block above : ℕ) (b : ℕ × ℕ) → place_below block above ≡ Some b → b.0 ≡ block
taken_block block zero b is = absurd (cc)
taken_block block (suc place) b is =
    let same : (block, place) ≡ b = cc in ap (λ (x : ℕ × ℕ). x.0) (sym same)

taken_above : (block above : ℕ) (b : ℕ × ℕ) → place_below block above ≡ Some b → above ≢ 0
taken_above block zero b is = absurd (cc)
taken_above block (suc place) b is = λ e. absurd (omega (arith, e))

pub block_there : (block above : ℕ) → above ≢ 0 → place_below block above ≡ Some (block, above - 1)
block_there block zero some = absurd (some refl)
block_there block (suc place) some =
    let one : place ≡ suc place - 1 = omega arith in ap (λ n. Some (block, n)) one

pub none_there : (block above : ℕ) → above ≡ 0 → place_below block above ≡ None
none_there block above none = ap (place_below block) none

pub one_above : (block place : ℕ) → place_below block (place + 1) ≡ Some (block, place)
one_above block place = let more : place + 1 ≡ suc place = omega arith in ap (place_below block) more

-- ---- a table of entries

-- a block's entry, by the number of entries
pub leads_to : {count long at : ℕ} (spread : ℕ) (entries : List Entry) (block : ℕ) → long ≡ length entries →
    count ≡ long → at ≡ entry_in spread count block → at ≡ entry_in spread (length (map stands_in entries)) block
leads_to spread entries block whole all is =
    is ∙ ap (λ n. entry_in spread n block) (all ∙ whole ∙ sym (length-map entries stands_in))

module _ (spread used : ℕ) (entries : List Entry) (table : IsTable spread used (map stands_in entries)) where
  abbrev pub blocks : List (ℕ × ℕ)
  blocks = blocks_in (map stands_in entries)

  pub few : length entries ≤ 2 ^ 32
  few = omega (arith, table.small, length-map entries stands_in)

  pub used_within : used ≤ length entries
  used_within = omega (arith, table.counted, count_within (map stands_in entries), length-map entries stands_in)

  module _ (block at : ℕ) (leads : at ≡ entry_in spread (length (map stands_in entries)) block) where
    -- the table has no such entry
    pub found_past : length entries ≤ at → None ≡ found_in blocks block
    found_past past = sym (not_there spread used (map stands_in entries) table block at None leads
        (get_or_past (map stands_in entries) at None (omega (arith, past, length-map entries stands_in)))
        (λ b is own. absurd (cc)))

    module _ (inside : at < length entries) (e : Entry) (read : e ≡ get_or entries at e) where
      stands_there : get_or (map stands_in entries) at None ≡ stands_in e
      stands_there = get_or-map stands_in entries at e None inside ∙ ap stands_in (sym read)

      -- the block stands there
      pub found_here : e.block ≡ block → e.above ≢ 0 → Some (e.above - 1) ≡ found_in blocks block
      found_here own some = sym (is_there spread used (map stands_in entries) table block at (e.block, e.above - 1)
          (stands_there ∙ block_there e.block e.above some) own)

      -- another block stands there
      pub found_other : e.block ≢ block → None ≡ found_in blocks block
      found_other other = sym (not_there spread used (map stands_in entries) table block at (stands_in e) leads
          stands_there (λ b is own. other (sym (taken_block e.block e.above b is) ∙ own)))

      -- no block stands there
      pub found_free : e.above ≡ 0 → None ≡ found_in blocks block
      found_free none = sym (not_there spread used (map stands_in entries) table block at (stands_in e) leads
          stands_there (λ b is own. taken_above e.block e.above b is none))

      -- a block comes to a free entry
      module _ (none : e.above ≡ 0) (place : ℕ) (new : Entry) (is : stands_in new ≡ Some (block, place)) where
        put : IsAtEntry spread (map stands_in entries) block at None
        put = record {
          leads = leads;
          within = omega (arith, inside, length-map entries stands_in);
          here = stands_there ∙ none_there e.block e.above none;
        }

        made : set (map stands_in entries) at (Some (block, place)) ≡ map stands_in (set entries at new)
        made = ap (set (map stands_in entries) at) (sym is) ∙ sym (map-set entries at)
          where
            map-set : (es : List Entry) (i : ℕ) →
                map stands_in (set es i new) ≡ set (map stands_in es) i (stands_in new)
            map-set [] i = refl
            map-set (x ∷ es) zero = refl
            map-set (x ∷ es) (suc i) = ap (λ (os : List (Option (ℕ × ℕ))). stands_in x ∷ os) (map-set es i)

        pub table_with : IsTable spread (used + 1) (map stands_in (set entries at new))
        table_with = subst (IsTable spread (used + 1)) made
            (new_table spread used (map stands_in entries) table at (block, place) None put refl)

        pub blocks_with : IsWith blocks block place (blocks_in (map stands_in (set entries at new)))
        blocks_with = λ q. ap (λ (os : List (Option (ℕ × ℕ))). found_in (blocks_in os) q) (sym made)
            ∙ after_new spread used (map stands_in entries) table at (block, place) None put refl q

-- ---- a table of free entries

module _ (free : Entry) (none : stands_in free ≡ None) where
  pub no_blocks : (n : ℕ) → blocks_in (map stands_in (replicate n free)) ≡ []
  no_blocks zero = refl
  no_blocks (suc n) = ap (λ (o : Option (ℕ × ℕ)). blocks_in (o ∷ map stands_in (replicate n free))) none ∙ no_blocks n

  free_at : (n i : ℕ) → get_or (map stands_in (replicate n free)) i None ≡ None
  free_at zero i = refl
  free_at (suc n) zero = none
  free_at (suc n) (suc i) = free_at n i

  free_long : (n : ℕ) → length (map stands_in (replicate n free)) ≡ n
  free_long zero = refl
  free_long (suc n) = ap suc (free_long n)

  pub free_table : (spread used n : ℕ) (entries : List Entry) → entries ≡ replicate n free → n ≤ 2 ^ 32 → used ≡ 0 →
      IsTable spread used (map stands_in entries)
  free_table spread used n entries all small empty =
      subst (λ (es : List Entry). IsTable spread used (map stands_in es)) (sym all) (record {
        own = λ i b is. let no : None ≡ Some b = sym (free_at n i) ∙ is in absurd (cc);
        counted = empty ∙ sym (ap length (no_blocks n));
        small = omega (arith, small, free_long n);
      })

-- ---- a table of twice as many entries

abbrev pub widened : ℕ → ℕ → List Entry → List (Option (ℕ × ℕ))
widened spread count entries = wider spread count (map stands_in entries)

-- all entries became two
pub widened_same : (spread : ℕ) (entries made : List Entry) → map stands_in made
    ≡ widened spread (2 * length entries) entries → blocks_in (map stands_in made) ≡ blocks_in (map stands_in entries)
widened_same spread entries made is =
    ap blocks_in is ∙ wider_blocks spread (2 * length entries) (map stands_in entries)

pub widened_table : (spread used : ℕ) (entries made : List Entry) → map stands_in made
    ≡ widened spread (2 * length entries) entries → length entries ≤ 2 ^ 31 →
    IsTable spread used (map stands_in entries) → IsTable spread used (map stands_in made)
widened_table spread used entries made is small table =
    let long = length-map entries stands_in in
    subst (IsTable spread used)
    (ap (λ n. wider spread (2 * n) (map stands_in entries)) long ∙ sym is)
    (wider_table spread used (map stands_in entries) (omega (arith, small, long)) table)
