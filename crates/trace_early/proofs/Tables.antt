-- A table of the items of chunks, where an entry comes or goes.
use Rattle.std.proofs.Common.{◌≡◌, ℕ, ◌+◌, ◌-◌, ◌<◌, ◌%◌, ◌^◌, Bool, true, false, cond, List, [], ◌∷◌, ◌++◌}
use Rattle.std.proofs.Common.{length, get_or, set, map, Option, Some, None, refl, sym, ap, ◌∙◌, subst, ⊎_elim, arith}
use Rattle.std.proofs.Common.{Vec, Global, is_some, option_map, All, length-append, length-set}
use Rattle.std.specs.Map.{lookup}
use Rattle.std.specs.BTreeMap.{is_at}
use Rattle.std.specs.Ordering.{nat_cmp}
use Rattle.std.specs.List.Sorted.{IsPermutation}
use Rattle.std.proofs.lemmas.List.Elements.{All-cons, All-head, All-tail, All-contains, All-nil}
use Rattle.std.proofs.lemmas.List.Sorted.{IsPermutation-map, IsPermutation-sym}
use Rattle.std.proofs.lemmas.List.Sorted.{length_permutation}
use Rattle.std.proofs.lemmas.Map.Made.{lookup-map_values}
use Rattle.std.proofs.lemmas.Bool.{cases_eq}
use Rattle.trace_early.specs.Kept.{Keeps, StandsIn}
use Rattle.trace_early.specs.Table.{IsTable, AreOwn, AreSized, entries, place_for, slot_for, numbered_as, placed}
use Rattle.trace_early.specs.Table.{numbered, item_in}
use Rattle.trace_early.proofs.Keeping.{Keeps-permutation}
use Rattle.trace_early.proofs.Slots.{Slots, none_or_some, entry_there, at_slot, place_is, place_own, place_other}
use Rattle.trace_early.proofs.Slots.{entries_put, entries_gone, AreOwn-put, AreOwn-gone, slot_for-same, place-stays}
use Rattle.trace_early.proofs.Slots.{place_both}

abbrev pub Chunked : Type 0
Chunked = List (List ℕ × ℕ)

abbrev pub Items : Type 0
Items = List (ℕ × List ℕ)

-- ---- what a number has

abbrev pub or_else : {X : Type 0} → Option X → Option X → Option X
or_else (Some x) other = Some x
or_else None other = other

lookup-append : {X : Type 0} (test : ℕ → Bool) (es fs : List (ℕ × X))
    → lookup test (es ++ fs) ≡ or_else (lookup test es) (lookup test fs)
lookup-append test [] fs = refl
lookup-append {X} test (e ∷ es) fs = go (test e.0) (lookup-append test es fs)
  where
    go : (b : Bool) → lookup test (es ++ fs) ≡ or_else (lookup test es) (lookup test fs)
        → cond b (Some e.1) (lookup test (es ++ fs)) ≡ or_else (cond b (Some e.1) (lookup test es)) (lookup test fs)
    go true rest = refl
    go false rest = rest

pub at_table : (slots : Slots) (chunks : Chunked) (aside : Items) → AreOwn slots → (n : ℕ)
    → numbered_as n (numbered chunks (entries slots) ++ aside)
    ≡ or_else (option_map (item_in chunks) (place_for n (slot_for slots n))) (numbered_as n aside)
at_table slots chunks aside own n = lookup-append (is_at (nat_cmp n)) (numbered chunks (entries slots)) aside
    ∙ ap (λ (o : Option (List ℕ)). or_else o (numbered_as n aside))
    (lookup-map_values (item_in chunks) (is_at (nat_cmp n)) (entries slots)
    ∙ ap (option_map (item_in chunks)) (at_slot slots own n))

pub at_place : (slots : Slots) (chunks : Chunked) (aside : Items) → AreOwn slots → (n p : ℕ)
    → place_for n (slot_for slots n) ≡ Some p
    → numbered_as n (numbered chunks (entries slots) ++ aside) ≡ Some (item_in chunks p)
at_place slots chunks aside own n p is = at_table slots chunks aside own n
    ∙ ap (λ (o : Option ℕ). or_else (option_map (item_in chunks) o) (numbered_as n aside)) is

pub at_aside : (slots : Slots) (chunks : Chunked) (aside : Items) → AreOwn slots → (n : ℕ)
    → place_for n (slot_for slots n) ≡ None
    → numbered_as n (numbered chunks (entries slots) ++ aside) ≡ numbered_as n aside
at_aside slots chunks aside own n is = at_table slots chunks aside own n
    ∙ ap (λ (o : Option ℕ). or_else (option_map (item_in chunks) o) (numbered_as n aside)) is

-- a number without an item has no place, and none aside
pub no_place : (slots : Slots) (chunks : Chunked) (aside : Items) → AreOwn slots → (n : ℕ)
    → numbered_as n (numbered chunks (entries slots) ++ aside) ≡ None → place_for n (slot_for slots n) ≡ None
no_place slots chunks aside own n none = ⊎_elim (λ (is : place_for n (slot_for slots n) ≡ None). is)
    (λ (some : (p : ℕ) × (place_for n (slot_for slots n) ≡ Some p)).
    absurd (cc (at_place slots chunks aside own n some.0 some.1, none)))
    (none_or_some (place_for n (slot_for slots n)))

pub none_aside : (slots : Slots) (chunks : Chunked) (aside : Items) → AreOwn slots → (n : ℕ)
    → numbered_as n (numbered chunks (entries slots) ++ aside) ≡ None → numbered_as n aside ≡ None
none_aside slots chunks aside own n none = sym (at_aside slots chunks aside own n
    (no_place slots chunks aside own n none)) ∙ none

-- the same places in other slots
pub same_places : (slots more : Slots) (chunks : Chunked) (aside : Items) → AreOwn slots → AreOwn more → (n : ℕ)
    → place_for n (slot_for more n) ≡ place_for n (slot_for slots n)
    → numbered_as n (numbered chunks (entries more) ++ aside) ≡ numbered_as n (numbered chunks (entries slots) ++ aside)
same_places slots more chunks aside own owns n same = at_table more chunks aside owns n
    ∙ ap (λ (o : Option ℕ). or_else (option_map (item_in chunks) o) (numbered_as n aside)) same
    ∙ sym (at_table slots chunks aside own n)

-- ---- what the chunks keep

placed_moved : (chunks : Chunked) (es fs : List (ℕ × ℕ)) → IsPermutation es fs → Keeps chunks (placed chunks es)
    → Keeps chunks (placed chunks fs)
placed_moved chunks es fs same keeps = Keeps-permutation chunks (placed chunks es) (placed chunks fs)
    (IsPermutation-map (λ (e : ℕ × ℕ). (e.1, item_in chunks e.1)) es fs same) keeps

all_placed : (chunks : Chunked) (es : List (ℕ × ℕ)) → All (StandsIn chunks) (placed chunks es)
    → All (λ e. StandsIn chunks (e.1, item_in chunks e.1)) es
all_placed chunks [] all = All-nil (λ (e : ℕ × ℕ). StandsIn chunks (e.1, item_in chunks e.1))
all_placed chunks (e ∷ es) all = All-cons (λ (e : ℕ × ℕ). StandsIn chunks (e.1, item_in chunks e.1)) e es
    (All-head (StandsIn chunks) (e.1, item_in chunks e.1) (placed chunks es) all)
    (all_placed chunks es (All-tail (StandsIn chunks) (e.1, item_in chunks e.1) (placed chunks es) all))

pub stands_at : (slots : Slots) (chunks : Chunked) → Keeps chunks (placed chunks (entries slots)) → (n p : ℕ)
    → place_for n (slot_for slots n) ≡ Some p → StandsIn chunks (p, item_in chunks p)
stands_at slots chunks keeps n p is = All-contains (λ (e : ℕ × ℕ). StandsIn chunks (e.1, item_in chunks e.1))
    (entries slots) (n, p) (all_placed chunks (entries slots) keeps.each)
    (entry_there slots (n % length slots) (n, p) (place_is n p (slot_for slots n) is))

-- items that stand there afterwards are the same
same_placed : (chunks next : Chunked) (es : List (ℕ × ℕ)) → All (StandsIn next) (placed chunks es)
    → placed next es ≡ placed chunks es
same_placed chunks next [] all = refl
same_placed chunks next (e ∷ es) all =
    let here = All-head (StandsIn next) (e.1, item_in chunks e.1) (placed chunks es) all in
    let rest = same_placed chunks next es (All-tail (StandsIn next) (e.1, item_in chunks e.1) (placed chunks es) all) in
    (λ i. (e.1, here.same i) ∷ rest i)

pub same_numbered : (chunks next : Chunked) (es : List (ℕ × ℕ)) → All (StandsIn next) (placed chunks es)
    → numbered next es ≡ numbered chunks es
same_numbered chunks next [] all = refl
same_numbered chunks next (e ∷ es) all =
    let here = All-head (StandsIn next) (e.1, item_in chunks e.1) (placed chunks es) all in
    let rest = same_numbered chunks next es
    (All-tail (StandsIn next) (e.1, item_in chunks e.1) (placed chunks es) all) in
    (λ i. (e.0, here.same i) ∷ rest i)

pub Keeps-placed : (chunks next : Chunked) (es : List (ℕ × ℕ)) → Keeps next (placed chunks es)
    → Keeps next (placed next es)
Keeps-placed chunks next es keeps = subst (Keeps next) (sym (same_placed chunks next es keeps.each)) keeps

-- ---- other chunks, other slots, or other items aside

pub IsTable-next : (slots : Slots) (taken : ℕ) (chunks next : Chunked) (aside : Items)
    → IsTable slots taken chunks aside → Keeps next (placed chunks (entries slots)) → IsTable slots taken next aside
IsTable-next slots taken chunks next aside table keeps = record {
  own = table.own;
  sized = table.sized;
  counted = table.counted;
  keeps = Keeps-placed chunks next (entries slots) keeps;
  apart = table.apart;
}

pub IsTable-moved : (slots more : Slots) (taken : ℕ) (chunks : Chunked) (aside : Items)
    → IsTable slots taken chunks aside → AreOwn more → AreSized more → IsPermutation (entries slots) (entries more)
    → IsTable more taken chunks aside
IsTable-moved slots more taken chunks aside table own sized same = record {
  own = own;
  sized = sized;
  counted = table.counted ∙ sym (length_permutation (entries slots) (entries more) same);
  keeps = placed_moved chunks (entries slots) (entries more) same table.keeps;
  apart = λ n p is. table.apart n p (sym (place_both slots more table.own own same n) ∙ is);
}

pub numbered-moved : (slots more : Slots) (chunks : Chunked) (aside : Items) → AreOwn slots → AreOwn more
    → IsPermutation (entries slots) (entries more) → (n : ℕ)
    → numbered_as n (numbered chunks (entries more) ++ aside) ≡ numbered_as n (numbered chunks (entries slots) ++ aside)
numbered-moved slots more chunks aside own owns same n = same_places slots more chunks aside own owns n
    (place_both slots more own owns same n)

pub IsTable-aside : (slots : Slots) (taken : ℕ) (chunks : Chunked) (aside more : Items)
    → IsTable slots taken chunks aside → (n : ℕ) → place_for n (slot_for slots n) ≡ None
    → ((k : ℕ) → (k ≡ n → ⊥) → numbered_as k more ≡ numbered_as k aside) → IsTable slots taken chunks more
IsTable-aside slots taken chunks aside more table n none others = record {
  own = table.own;
  sized = table.sized;
  counted = table.counted;
  keeps = table.keeps;
  apart = λ k p is. ⊎_elim
      (λ (same : k ≡ n). absurd (cc (ap (λ m. place_for m (slot_for slots m)) same, is, none)))
      (λ (other : k ≡ n → ⊥). others k other ∙ table.apart k p is)
      (cases_eq k n);
}

pub numbered-aside : (slots : Slots) (chunks : Chunked) (aside more : Items) → AreOwn slots → (k : ℕ)
    → numbered_as k more ≡ numbered_as k aside
    → numbered_as k (numbered chunks (entries slots) ++ more) ≡ numbered_as k (numbered chunks (entries slots) ++ aside)
numbered-aside slots chunks aside more own k same = at_table slots chunks more own k
    ∙ ap (or_else (option_map (item_in chunks) (place_for k (slot_for slots k)))) same
    ∙ sym (at_table slots chunks aside own k)

-- ---- an entry more

module _ (slots : Slots) (taken : ℕ) (chunks next : Chunked) (aside : Items) (table : IsTable slots taken chunks aside)
    (n p slot : ℕ) (item : List ℕ) (below : slot < length slots) (at : n % length slots ≡ slot)
    (is_free : get_or slots slot None ≡ None)
    (gave : (kept : Items) → Keeps chunks kept → Keeps next ((p, item) ∷ kept)) where
  all_kept : Keeps next ((p, item) ∷ placed chunks (entries slots))
  all_kept = gave (placed chunks (entries slots)) table.keeps

  stay : All (StandsIn next) (placed chunks (entries slots))
  stay = All-tail (StandsIn next) (p, item) (placed chunks (entries slots)) all_kept.each

  stands : item_in next p ≡ item
  stands =
      let here = All-head (StandsIn next) (p, item) (placed chunks (entries slots)) all_kept.each in
      here.same

  with_entry : Keeps next (placed next ((n, p) ∷ entries slots))
  with_entry = subst (Keeps next)
      (λ i. (p, sym stands i) ∷ sym (same_placed chunks next (entries slots) stay) i) all_kept

  place-put : (k : ℕ) → (k ≡ n → ⊥)
      → place_for k (slot_for (set slots slot (Some (n, p))) k) ≡ place_for k (slot_for slots k)
  place-put k other = place-stays slots slot below (Some (n, p)) k (ap (place_for k) is_free)
      (place_other k n p (λ same. other (sym same)))

  own-put : AreOwn (set slots slot (Some (n, p)))
  own-put = AreOwn-put slots slot below n p table.own at

  pub IsTable-put : numbered_as n aside ≡ None → IsTable (set slots slot (Some (n, p))) (taken + 1) next aside
  IsTable-put absent = record {
    own = own-put;
    sized = subst (λ (len : ℕ). 0 < len → (bits : ℕ) × (len ≡ 2 ^ bits)) (sym (length-set slots slot (Some (n, p))))
        table.sized;
    counted = omega (
      arith,
      table.counted,
      length_permutation (entries (set slots slot (Some (n, p))))
          ((n, p) ∷ entries slots) (entries_put slots slot (n, p) below is_free),
    );
    keeps = placed_moved next ((n, p) ∷ entries slots) (entries (set slots slot (Some (n, p))))
        (IsPermutation-sym (entries (set slots slot (Some (n, p)))) ((n, p) ∷ entries slots)
        (entries_put slots slot (n, p) below is_free)) with_entry;
    apart = λ k q is. ⊎_elim
        (λ (same : k ≡ n). ap (λ m. numbered_as m aside) same ∙ absent)
        (λ (other : k ≡ n → ⊥). table.apart k q (sym (place-put k other) ∙ is))
        (cases_eq k n);
  }

  pub put-own : numbered_as n (numbered next (entries (set slots slot (Some (n, p)))) ++ aside) ≡ Some item
  put-own = at_place (set slots slot (Some (n, p))) next aside own-put n p
      (ap (place_for n) (slot_for-same slots slot below (Some (n, p)) n at) ∙ place_own n p) ∙ ap Some stands

  pub put-others : (k : ℕ) → (k ≡ n → ⊥)
      → numbered_as k (numbered next (entries (set slots slot (Some (n, p)))) ++ aside)
      ≡ numbered_as k (numbered chunks (entries slots) ++ aside)
  put-others k other = same_places slots (set slots slot (Some (n, p))) next aside table.own own-put k
      (place-put k other)
      ∙ ap (λ es. numbered_as k (es ++ aside)) (same_numbered chunks next (entries slots) stay)

-- ---- an entry less

pub length_numbered : (chunks : Chunked) (es : List (ℕ × ℕ)) → length (numbered chunks es) ≡ length es
length_numbered chunks [] = refl
length_numbered chunks (e ∷ es) = omega (arith, length_numbered chunks es)

module _ (slots : Slots) (taken : ℕ) (chunks : Chunked) (aside : Items) (table : IsTable slots taken chunks aside)
    (n p slot : ℕ) (below : slot < length slots) (at : n % length slots ≡ slot)
    (has : place_for n (slot_for slots n) ≡ Some p) where
  abbrev pub left : Slots
  left = set slots slot None

  pub has_entry : get_or slots slot None ≡ Some (n, p)
  has_entry = ap (λ k. get_or slots k None) (sym at) ∙ place_is n p (slot_for slots n) has

  gone_entries : IsPermutation (entries slots) ((n, p) ∷ entries left)
  gone_entries = entries_gone slots slot (n, p) has_entry

  pub counts_one : length (entries slots) ≡ 1 + length (entries left)
  counts_one = omega (arith, length_permutation (entries slots) ((n, p) ∷ entries left) gone_entries)

  pub keeps_with : Keeps chunks ((p, item_in chunks p) ∷ placed chunks (entries left))
  keeps_with = placed_moved chunks (entries slots) ((n, p) ∷ entries left) gone_entries table.keeps

  place-gone : (k : ℕ) → (k ≡ n → ⊥) → place_for k (slot_for left k) ≡ place_for k (slot_for slots k)
  place-gone k other = place-stays slots slot below None k
      (ap (place_for k) has_entry ∙ place_other k n p (λ same. other (sym same))) refl

  no_place_left : place_for n (slot_for left n) ≡ None
  no_place_left = ap (place_for n) (slot_for-same slots slot below None n at)

  own-left : AreOwn left
  own-left = AreOwn-gone slots slot below table.own

  module _ (next : Chunked) (keeps : Keeps next (placed chunks (entries left))) where
    pub IsTable-gone : IsTable left (taken - 1) next aside
    IsTable-gone = record {
      own = own-left;
      sized = subst (λ (len : ℕ). 0 < len → (bits : ℕ) × (len ≡ 2 ^ bits)) (sym (length-set slots slot None))
          table.sized;
      counted = omega (arith, table.counted, counts_one);
      keeps = Keeps-placed chunks next (entries left) keeps;
      apart = λ k q is. ⊎_elim
          (λ (same : k ≡ n). absurd (cc (ap (λ m. place_for m (slot_for left m)) same, is, no_place_left)))
          (λ (other : k ≡ n → ⊥). table.apart k q (sym (place-gone k other) ∙ is))
          (cases_eq k n);
    }

    pub gone-own : numbered_as n (numbered next (entries left) ++ aside) ≡ None
    gone-own = at_aside left next aside own-left n no_place_left ∙ table.apart n p has

    pub gone-others : (k : ℕ) → (k ≡ n → ⊥) → numbered_as k (numbered next (entries left) ++ aside)
        ≡ numbered_as k (numbered chunks (entries slots) ++ aside)
    gone-others k other = ap (λ es. numbered_as k (es ++ aside)) (same_numbered chunks next (entries left) keeps.each)
        ∙ same_places slots left chunks aside table.own own-left k (place-gone k other)

    pub gone-fewer : length (numbered next (entries left) ++ aside) < length (numbered chunks (entries slots) ++ aside)
    gone-fewer = omega (
      arith,
      counts_one,
      length-append (numbered next (entries left)) aside,
      length-append (numbered chunks (entries slots)) aside,
      length_numbered next (entries left),
      length_numbered chunks (entries slots),
    )

-- so as many entries are as many items, whatever is in the chunks
pub as_many_items : (slots more : Slots) (chunks next : Chunked) (aside : Items)
    → length (entries more) ≡ length (entries slots)
    → length (numbered next (entries more) ++ aside) ≡ length (numbered chunks (entries slots) ++ aside)
as_many_items slots more chunks next aside same = omega (
  arith,
  same,
  length-append (numbered next (entries more)) aside,
  length-append (numbered chunks (entries slots)) aside,
  length_numbered next (entries more),
  length_numbered chunks (entries slots),
)

-- ---- items that are kept aside as bytes of their own

abbrev pub Owned : Type 0
Owned = List (ℕ × Vec ℕ Global)

abbrev pub items_of : Owned → Items
items_of aside = map (λ e. (e.0, e.1.items)) aside

pub at_items : (aside : Owned) (n : ℕ)
    → numbered_as n (items_of aside) ≡ option_map (λ bytes. bytes.items) (numbered_as n aside)
at_items aside n = lookup-map_values (λ (bytes : Vec ℕ Global). bytes.items) (is_at (nat_cmp n)) aside

pub items_same : (aside more : Owned) (n : ℕ) → numbered_as n more ≡ numbered_as n aside
    → numbered_as n (items_of more) ≡ numbered_as n (items_of aside)
items_same aside more n same = at_items more n ∙ ap (option_map (λ (bytes : Vec ℕ Global). bytes.items)) same
    ∙ sym (at_items aside n)

is_some_map : {X Y : Type 0} (f : X → Y) (o : Option X) → is_some (option_map f o) ≡ is_some o
is_some_map f None = refl
is_some_map f (Some x) = refl

is_some_first : (f : ℕ → List ℕ) (o : Option ℕ) (other : Option (List ℕ)) → is_some o ≡ true
    → is_some (or_else (option_map f o) other) ≡ true
is_some_first f None other some = absurd (cc)
is_some_first f (Some p) other some = refl

none_from : {X : Type 0} (o : Option X) → is_some o ≡ false → o ≡ None
none_from None none = refl
none_from (Some x) none = absurd (cc)

pub contained_first : (slots : Slots) (chunks : Chunked) (aside : Items) → AreOwn slots → (n : ℕ)
    → is_some (place_for n (slot_for slots n)) ≡ true
    → is_some (numbered_as n (numbered chunks (entries slots) ++ aside)) ≡ true
contained_first slots chunks aside own n some = ap is_some (at_table slots chunks aside own n)
    ∙ is_some_first (item_in chunks) (place_for n (slot_for slots n)) (numbered_as n aside) some

pub contained_aside : (slots : Slots) (chunks : Chunked) (aside : Owned) → AreOwn slots → (n : ℕ)
    → is_some (place_for n (slot_for slots n)) ≡ false
    → is_some (numbered_as n (numbered chunks (entries slots) ++ items_of aside)) ≡ is_some (numbered_as n aside)
contained_aside slots chunks aside own n none =
    ap is_some (at_aside slots chunks (items_of aside) own n (none_from (place_for n (slot_for slots n)) none)
    ∙ at_items aside n)
    ∙ is_some_map (λ (bytes : Vec ℕ Global). bytes.items) (numbered_as n aside)

pub length_items : (aside : Owned) → length (items_of aside) ≡ length aside
length_items [] = refl
length_items (e ∷ aside) = omega (arith, length_items aside)
