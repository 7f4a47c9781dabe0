-- Lines by rising blocks: as the entries of a sorted map.
use Rattle.std.proofs.Common.{ℕ, ◌≡◌, Bool, true, false, cond, not, ◌&&◌, ◌==◌, ◌+◌, List, [], ◌∷◌, Some, None}
use Rattle.std.proofs.Common.{is_some, refl}
use Rattle.std.proofs.Common.{sym, ap, ◌∙◌, subst, ap₂, arith, eqb-true, eq-eqb, ne_eqb, Ordering, Less, Equal, Greater}
use Rattle.std.specs.Prelude.{count_by, T}
use Rattle.std.specs.Map.{keys_of}
use Rattle.std.specs.List.{AllByRecursion}
use Rattle.std.specs.List.Sorted.{IsStrictlySortedBy}
use Rattle.std.specs.Ordering.{nat_cmp, eq_by_cmp, match_ordering, is_lt, is_eq}
use Rattle.std.specs.Cmp.{nat_cmp_total, unsigned_tied, ranked}
use Rattle.std.specs.FinMap.Entries.{find, put, by_order, below_all, is_sorted, find-put, find-where_key}
use Rattle.std.specs.FinMap.Entries.{is_sorted-put, is_sorted-where_key, same_entries}
use Rattle.std.proofs.lemmas.Bool.{eqb-false}
use Rattle.std.proofs.lemmas.Map.Lookups.{exact_unsigned}
use Rattle.lf_rules.specs.Lines.{line_at, with_line, without_line}
use Rattle.lf_levels.proofs.Counting.{count-cons}

pub flip : (a b : ℕ) → (a == b) ≡ (b == a)
flip a b = elim (a == b) as (λ t. (a == b) ≡ t → t ≡ (b == a)) [
  | true ↦ λ e. sym (eq-eqb b a (sym (eqb-true a b e)))
  | false ↦ λ e. sym (ne_eqb b a (λ same. eqb-false a b e (sym same)))
] refl

turned : {A : Type 0} (b : Bool) (u v : A) → cond (not b) u v ≡ cond b v u
turned true u v = refl
turned false u v = refl

both_parts : (a b : Bool) → T (a && b) → T a × T b
both_parts true b h = (tt, h)
both_parts false b h = absurd h

less : (o : Ordering) → T (is_lt o) → o ≡ Less
less Less h = refl
less Equal h = absurd h
less Greater h = absurd h

module _ {M : Type 0} where
  -- the words of a `BTreeMap` and those of a finite map are one
  lookup_is_find : (lines : List (ℕ × M)) (y : ℕ) → line_at lines y ≡ find nat_cmp y lines
  lookup_is_find [] y = refl
  lookup_is_find (l ∷ lines) y = ap (cond (eq_by_cmp nat_cmp y l.0) (Some l.1)) (lookup_is_find lines y)

  insert_is_put : (lines : List (ℕ × M)) (x : ℕ) (m : M) → with_line lines x m ≡ put nat_cmp x m lines
  insert_is_put [] x m = refl
  insert_is_put (l ∷ lines) x m = go (nat_cmp x l.0) (insert_is_put lines x m)
    where
      go : (o : Ordering) → with_line lines x m ≡ put nat_cmp x m lines
          → match_ordering o ((x, m) ∷ l ∷ lines) ((l.0, m) ∷ lines) (l ∷ with_line lines x m)
          ≡ by_order o ((x, m) ∷ l ∷ lines) ((l.0, m) ∷ lines) (l ∷ put nat_cmp x m lines)
      go Less e = refl
      go Equal e = refl
      go Greater e = ap (λ (rest : List (ℕ × M)). l ∷ rest) e

  pub line_put : (lines : List (ℕ × M)) (x : ℕ) (m : M) (y : ℕ) →
      line_at (with_line lines x m) y ≡ cond (x == y) (Some m) (line_at lines y)
  line_put lines x m y =
      ap (λ (k : List (ℕ × M)). line_at k y) (insert_is_put lines x m) ∙ lookup_is_find (put nat_cmp x m lines) y
      ∙ find-put nat_cmp nat_cmp_total y x m lines ∙ ap₂ (λ b o. cond b (Some m) o) (unsigned_tied y x ∙ flip y x)
      (sym (lookup_is_find lines y))

  pub line_gone : (lines : List (ℕ × M)) (x y : ℕ) → line_at (without_line lines x) y
      ≡ cond (x == y) None (line_at lines y)
  line_gone lines x y =
      lookup_is_find (without_line lines x) y
      ∙ find-where_key nat_cmp (λ k. not (k == x)) y (λ k tied. ap (λ n. not (n == x))
      (sym (ranked y k Equal (sym tied)))) lines
      ∙ turned (y == x) (find nat_cmp y lines) None ∙ ap₂ (λ b o. cond b None o) (flip y x)
      (sym (lookup_is_find lines y))

  -- ---- rising blocks

  abbrev pub AreRising : List (ℕ × M) → Type 0
  AreRising lines = T (is_sorted nat_cmp lines)

  pub rising-with : (lines : List (ℕ × M)) (x : ℕ) (m : M) → AreRising lines → AreRising (with_line lines x m)
  rising-with lines x m h = subst AreRising (sym (insert_is_put lines x m))
      (is_sorted-put nat_cmp nat_cmp_total x m lines h)

  pub rising-without : (lines : List (ℕ × M)) (x : ℕ) → AreRising lines → AreRising (without_line lines x)
  rising-without lines x h = is_sorted-where_key nat_cmp (λ k. not (k == x)) lines h

  -- rising lines that give each block the same are the same
  pub same_lines : (a b : List (ℕ × M)) → AreRising a → AreRising b → ((y : ℕ) → line_at a y ≡ line_at b y) → a ≡ b
  same_lines a b g h is = same_entries nat_cmp nat_cmp_total exact_unsigned a b g h
      (λ y. sym (lookup_is_find a y) ∙ is y ∙ lookup_is_find b y)

  -- a line that a block has already
  pub with_same : (lines : List (ℕ × M)) (x : ℕ) (m : M) → AreRising lines → line_at lines x ≡ Some m →
      with_line lines x m ≡ lines
  with_same lines x m h there = same_lines (with_line lines x m) lines (rising-with lines x m h) h
      (λ y. line_put lines x m y ∙ at y (x == y) refl)
    where
      at : (y : ℕ) (b : Bool) → (x == y) ≡ b → cond b (Some m) (line_at lines y) ≡ line_at lines y
      at y true e = sym (ap (line_at lines) (sym (eqb-true x y e)) ∙ there)
      at y false e = refl

  above : (x : ℕ) (lines : List (ℕ × M)) → T (below_all nat_cmp x lines) →
      AllByRecursion (λ y. nat_cmp x y ≡ Less) (keys_of lines)
  above x [] h = tt
  above x (l ∷ lines) h = let parts = both_parts _ _ h in (less _ parts.0, above x lines parts.1)

  pub sorted_from_rising : (lines : List (ℕ × M)) → AreRising lines → IsStrictlySortedBy nat_cmp (keys_of lines)
  unfolding IsStrictlySortedBy
  sorted_from_rising [] h = tt
  sorted_from_rising (l ∷ lines) h = let parts = both_parts _ _ h in
      (above l.0 lines parts.0, sorted_from_rising lines parts.1)

  -- ---- how many lines have a block that passes a test

  abbrev pub passing : (ℕ → Bool) → List (ℕ × M) → ℕ
  passing test lines = count_by (λ line. test line.0) lines

  -- one more line, on a block that had none
  pub passing-with : (test : ℕ → Bool) (lines : List (ℕ × M)) (x : ℕ) (m : M) → line_at lines x ≡ None
      → passing test (with_line lines x m) ≡ cond (test x) 1 0 + passing test lines
  passing-with test [] x m absent = count-cons (λ (line : ℕ × M). test line.0) (x, m) []
  passing-with test (l ∷ lines) x m absent = go (nat_cmp x l.0) refl (passing-with test lines x m)
    where
      f : ℕ × M → Bool
      f line = test line.0

      at_head : (o : Ordering) → nat_cmp x l.0 ≡ o → line_at (l ∷ lines) x ≡ cond (is_eq o) (Some l.1) (line_at lines x)
      at_head o e = ap (λ (r : Ordering). cond (is_eq r) (Some l.1) (line_at lines x)) e

      not_none : {A : Type 0} → Some l.1 ≡ None → A
      not_none e = absurd (cc (ap is_some e))

      go : (o : Ordering) → nat_cmp x l.0 ≡ o → (line_at lines x ≡ None →
          passing test (with_line lines x m) ≡ cond (test x) 1 0 + passing test lines)
          → passing test (match_ordering o ((x, m) ∷ l ∷ lines) ((l.0, m) ∷ lines) (l ∷ with_line lines x m))
          ≡ cond (test x) 1 0 + passing test (l ∷ lines)
      go Less e more = count-cons f (x, m) (l ∷ lines)
      go Equal e more = not_none (sym (at_head Equal e) ∙ absent)
      go Greater e more =
          let rest = more (sym (at_head Greater e) ∙ absent) in
          let first = count-cons f l (with_line lines x m) in
          let all = count-cons f l lines in
          omega (arith, rest, first, all)
