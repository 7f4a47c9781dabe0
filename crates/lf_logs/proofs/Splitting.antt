-- A record joins its log, or its bank.
use Rattle.std.proofs.Common.{◌≡◌, ℕ, ◌+◌, ◌<◌, ◌≤◌, cond, eqb, List, [], ◌∷◌, ◌++◌, map, length, get_or, set, refl}
use Rattle.std.proofs.Common.{sym, ap, ◌∙◌, subst, ⊎_elim, arith, add-one}
use Rattle.std.specs.List.{All, filter, range_with_len}
use Rattle.std.specs.Global.{Vec}
use Rattle.std.proofs.lemmas.List.{same_lists, length-set, get_or-set_same, get_or-set_other, append-nil, map-set}
use Rattle.std.proofs.lemmas.List.{length-map, get_or-map, get_or_at, length-append}
use Rattle.std.proofs.lemmas.List.Elements.{filter-append}
use Rattle.std.proofs.lemmas.List.FromFn.{length-map-range_with_len, get_or-map-range_with_len}
use Rattle.std.proofs.lemmas.Bool.{cases_eq, eq-eqb, ne_eqb, cond-true, cond-false}
use Rattle.lf_rules.specs.declared.event.Record.{Record}

-- the records of one key, and the lists of the keys 0 to count - 1
abbrev pub of_key : (Record → ℕ) → ℕ → List Record → List Record
of_key key k rs = filter (λ r. eqb (key r) k) rs

abbrev pub parts_of : (Record → ℕ) → ℕ → List Record → List (List Record)
parts_of key count rs = map (λ k. of_key key k rs) (range_with_len 0 count)

module _ (key : Record → ℕ) where
  -- one more record at the end of the list is one more at the end of its part alone
  of_key-push : (k : ℕ) (rs : List Record) (r : Record) → of_key key k (rs ++ r ∷ []) ≡ of_key key k rs
      ++ cond (eqb (key r) k) (r ∷ []) []
  of_key-push k rs r = filter-append (λ r. eqb (key r) k) rs (r ∷ [])

  pub of_key-push_own : (k : ℕ) (rs : List Record) (r : Record) → key r ≡ k →
      of_key key k (rs ++ r ∷ []) ≡ of_key key k rs ++ r ∷ []
  of_key-push_own k rs r e = of_key-push k rs r ∙ ap (λ xs. of_key key k rs ++ xs)
      (cond-true (eqb (key r) k) (r ∷ []) [] (eq-eqb (key r) k e))

  pub of_key-push_other : (k : ℕ) (rs : List Record) (r : Record) → (key r ≡ k → ⊥) →
      of_key key k (rs ++ r ∷ []) ≡ of_key key k rs
  of_key-push_other k rs r n = of_key-push k rs r ∙ ap (λ xs. of_key key k rs ++ xs)
      (cond-false (eqb (key r) k) (r ∷ []) [] (ne_eqb (key r) k n)) ∙ append-nil (of_key key k rs)

  pub length-parts_of : (count : ℕ) (rs : List Record) → length (parts_of key count rs) ≡ count
  length-parts_of count rs = length-map-range_with_len (λ k. of_key key k rs) 0 count

  pub get_or-parts_of : (count : ℕ) (rs : List Record) (k : ℕ) (d : List Record) → k < count →
      get_or (parts_of key count rs) k d ≡ of_key key k rs
  get_or-parts_of count rs k d h = get_or-map-range_with_len (λ k. of_key key k rs) 0 count k k d h (omega arith)

  pub parts_of-push : (count : ℕ) (rs : List Record) (r : Record) → key r < count →
      set (parts_of key count rs) (key r) (of_key key (key r) rs ++ r ∷ []) ≡ parts_of key count (rs ++ r ∷ [])
  parts_of-push count rs r h =
      let part = of_key key (key r) rs ++ r ∷ [] in
      same_lists _ _
      (length-set (parts_of key count rs) (key r) part ∙ length-parts_of count rs
      ∙ sym (length-parts_of count (rs ++ r ∷ [])))
      (λ k d below.
      let inside : k < count = omega (
        arith,
        length-parts_of count rs,
        length-set (parts_of key count rs) (key r)
            part,
      ) in
      ⊎_elim
      (λ (own : key r ≡ k).
      let at : key r < length (parts_of key count rs) = omega (arith, length-parts_of count rs) in
      ap (λ i. get_or (set (parts_of key count rs) (key r) part) i d) (sym own)
      ∙ get_or-set_same (parts_of key count rs) (key r) part d at
      ∙ sym (of_key-push_own (key r) rs r refl)
      ∙ ap (λ i. of_key key i (rs ++ r ∷ [])) own
      ∙ sym (get_or-parts_of count (rs ++ r ∷ []) k d inside))
      (λ (other : key r ≡ k → ⊥).
      get_or-set_other (parts_of key count rs) (key r) k part d (λ e. other (sym e))
      ∙ get_or-parts_of count rs k d inside
      ∙ sym (of_key-push_other k rs r other)
      ∙ sym (get_or-parts_of count (rs ++ r ∷ []) k d inside))
      (cases_eq (key r) k))

  -- a record of no part
  pub parts_of-outside : (count : ℕ) (rs : List Record) (r : Record) → count ≤ key r →
      parts_of key count rs ≡ parts_of key count (rs ++ r ∷ [])
  parts_of-outside count rs r h = same_lists _ _
      (length-parts_of count rs ∙ sym (length-parts_of count (rs ++ r ∷ [])))
      (λ k d below.
      let inside : k < count = omega (arith, length-parts_of count rs) in
      get_or-parts_of count rs k d inside
      ∙ sym (of_key-push_other k rs r (λ e. absurd (omega (arith, e))))
      ∙ sym (get_or-parts_of count (rs ++ r ∷ []) k d inside))

  -- the same at what holds the parts
  pub placed_in : {V : Type 0} (items : V → List Record) (xs : List V) (count : ℕ) (rs : List Record) (r : Record)
      (i : ℕ) (v w : V) → i ≡ key r → key r < count →
      map items xs ≡ parts_of key count rs → v ≡ get_or xs i v → items w ≡ items v ++ r ∷ [] →
      map items (set xs i w) ≡ parts_of key count (rs ++ r ∷ [])
  placed_in items xs count rs r i v w at inside before read pushed =
      let long : length xs ≡ count = sym (length-map xs items) ∙ ap length before ∙ length-parts_of count rs in
      let was : items v ≡ of_key key (key r) rs =
      ap items read
      ∙ sym (get_or-map items xs i v [] (omega arith))
      ∙ ap (λ ys. get_or ys i []) before
      ∙ ap (λ n. get_or (parts_of key count rs) n []) at
      ∙ get_or-parts_of count rs (key r) [] inside in
      map-set items xs i w
      ∙ ap (λ ys. set ys i (items w)) before
      ∙ ap (λ n. set (parts_of key count rs) n (items w)) at
      ∙ ap (λ ys. set (parts_of key count rs) (key r) ys) (pushed ∙ ap (λ ys. ys ++ r ∷ []) was)
      ∙ parts_of-push count rs r inside

  -- and at vectors that hold them
  pub placed : (xs : List (Vec Record)) (count : ℕ) (rs : List Record) (r : Record) (i : ℕ) (v w : Vec Record) →
      i ≡ key r → key r < count →
      map (λ v. v.items) xs ≡ parts_of key count rs → v ≡ get_or xs i v → w.items ≡ v.items ++ r ∷ [] →
      map (λ v. v.items) (set xs i w) ≡ parts_of key count (rs ++ r ∷ [])
  placed = placed_in (λ (v : Vec Record). v.items)

-- what holds of each element holds of the one between two parts
pub All-between : {X : Type 0} (P : X → Type 0) (xs : List X) (x : X) (ys zs : List X) → xs ++ x ∷ ys ≡ zs →
    All P zs → P x
All-between P xs x ys zs is all =
    let at : get_or zs (length xs) x ≡ x = sym (ap (λ ws. get_or ws (length xs) x) is)
    ∙ get_or_at xs x ys x (length xs) refl in
    let long : length xs + (length ys + 1) ≡ length zs = ap (λ n. length xs + n) (add-one (length ys))
    ∙ sym (length-append xs (x ∷ ys)) ∙ ap length is in
    subst P at (all (length xs) x (omega arith))
