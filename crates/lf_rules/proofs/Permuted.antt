-- An interleaving has the records of all logs, in another order.
use Rattle.std.proofs.Common.{◌≡◌, ℕ, suc, ◌+◌, ◌-◌, ◌≤◌, Bool, true, false, cond, not, ◌==◌, List, [], ◌∷◌, ◌++◌, map}
use Rattle.std.proofs.Common.{get_or, inl, inr, refl, sym, ap, ◌∙◌, subst, eq-eqb, eqb-true, true≢false, arith}
use Rattle.std.proofs.lemmas.Bool.{cases_Bool, cond-true, cond-false, eqb-false}
use Rattle.std.proofs.lemmas.List.Elements.{filter-append}
use Rattle.std.proofs.lemmas.List.Sorted.{IsPermutation-refl, IsPermutation-trans, IsPermutation-append_right}
use Rattle.std.proofs.lemmas.List.Sorted.{IsPermutation-filter_both}
use Rattle.std.proofs.Math.ListN.{get_or-map}
use Rattle.std.specs.List.{filter, flat_map, AllByRecursion}
use Rattle.std.specs.List.Sorted.{IsPermutation}
use Rattle.lf_rules.specs.declared.event.Record.{Record}
use Rattle.lf_rules.specs.Run.{of_log, of_bank, Interleaves}
use Rattle.lf_rules.specs.Fits.{Fits}
use Rattle.lf_rules.specs.Numbers.{all_records, InterleavingsFit}

module _ {X : Type 0} (p q : X → Bool) where
  -- two filters may change places
  pub filters_swap : (xs : List X) → filter p (filter q xs) ≡ filter q (filter p xs)
  filters_swap [] = refl
  filters_swap (x ∷ xs) = go (p x) (q x) refl refl (filters_swap xs)
    where
      go : (a b : Bool) → p x ≡ a → q x ≡ b → filter p (filter q xs) ≡ filter q (filter p xs)
          → filter p (cond b (x ∷ filter q xs) (filter q xs)) ≡ filter q (cond a (x ∷ filter p xs) (filter p xs))
      go true true e f ih = simp (e, f) (ap (λ ys. x ∷ ys) ih)
      go true false e f ih = rw f ih
      go false true e f ih = rw e ih
      go false false e f ih = ih

  -- a filter passes over what another drops
  pub filters_within : ((x : X) → p x ≡ true → q x ≡ true) → (xs : List X) → filter p (filter q xs) ≡ filter p xs
  filters_within inside [] = refl
  filters_within inside (x ∷ xs) = go (p x) (q x) refl refl (inside x) (filters_within inside xs)
    where
      go : (a b : Bool) → p x ≡ a → q x ≡ b → (p x ≡ true → q x ≡ true) → filter p (filter q xs) ≡ filter p xs
          → filter p (cond b (x ∷ filter q xs) (filter q xs)) ≡ cond a (x ∷ filter p xs) (filter p xs)
      go true true e f within ih = rw e (ap (λ ys. x ∷ ys) ih)
      go true false e f within ih = absurd (true≢false (sym (within e) ∙ f))
      go false true e f within ih = rw e ih
      go false false e f within ih = ih

-- what is left without log o, from a first log on
abbrev others : ℕ → Record → Bool
others o r = not (r.log == o)

others_from : (o : ℕ) (rs : List Record) → AllByRecursion (λ r. o ≤ r.log) rs →
    AllByRecursion (λ r. o + 1 ≤ r.log) (filter (others o) rs)
others_from o [] h = tt
others_from o (r ∷ rs) h =
    let Goal : List Record → Type 0 = AllByRecursion (λ r. o + 1 ≤ r.log) in
    (elim (cases_Bool (r.log == o)) [
      | inl e ↦ subst Goal (sym (cond-false (others o r) (r ∷ filter (others o) rs) (filter (others o) rs)
          (ap not e))) (others_from o rs h.1)
      | inr e ↦
          let apart = eqb-false r.log o e in
          let here = h.0 in
          let above : o + 1 ≤ r.log = grind arith in
          subst Goal (sym (cond-true (others o r) (r ∷ filter (others o) rs) (filter (others o) rs) (ap not e)))
          (above, others_from o rs h.1)
    ])

apart_passes : (o i : ℕ) (r : Record) → (r.log == o + 1 + i) ≡ true → others o r ≡ true
apart_passes o i r e =
    (elim (cases_Bool (r.log == o)) [
      | inl f ↦ let a = eqb-true r.log o f in let b = eqb-true r.log (o + 1 + i) e in absurd (omega arith)
      | inr f ↦ ap not f
    ])

-- the records of the logs from o on are those of the list
permuted_from : (logs : List (List Record)) (rs : List Record) (o : ℕ) →
    ((i : ℕ) → of_log (o + i) rs ≡ get_or logs i []) → AllByRecursion (λ r. o ≤ r.log) rs
    → IsPermutation rs (flat_map (λ xs. xs) logs)
permuted_from [] [] o each from = IsPermutation-refl []
permuted_from [] (r ∷ rs) o each from =
    let le = from.0 in
    let is : o + (r.log - o) ≡ r.log = omega arith in
    let mine : of_log r.log (r ∷ rs) ≡ [] = subst (λ k. of_log k (r ∷ rs) ≡ []) is (each (r.log - o)) in
    let some : r ∷ of_log r.log rs ≡ [] = sym (cond-true (r.log == r.log) (r ∷ of_log r.log rs) (of_log r.log rs)
    (eq-eqb r.log r.log refl)) ∙ mine in
    cc
permuted_from (l ∷ logs) rs o each from =
    let rest = filter (others o) rs in
    let first : of_log o rs ≡ l = subst (λ k. of_log k rs ≡ l) (omega arith) (each 0) in
    let next : (i : ℕ) → of_log (o + 1 + i) rest ≡ get_or logs i [] = λ i.
    filters_within (λ r. r.log == o + 1 + i) (others o) (apart_passes o i) rs
    ∙ subst (λ k. of_log k rs ≡ get_or logs i []) (omega arith) (each (suc i)) in
    let split : IsPermutation rs (l ++ rest) = subst (λ xs. IsPermutation rs (xs ++ rest)) first
    (IsPermutation-filter_both (λ r. r.log == o) (others o) (λ r. refl) rs) in
    IsPermutation-trans rs (l ++ rest) (l ++ flat_map (λ xs. xs) logs) split
    (IsPermutation-append_right l rest (flat_map (λ xs. xs) logs)
    (permuted_from logs rest (o + 1) next (others_from o rs from)))

all_from_zero : (rs : List Record) → AllByRecursion (λ r. 0 ≤ r.log) rs
all_from_zero [] = tt
all_from_zero (r ∷ rs) = (omega arith, all_from_zero rs)

pub interleaving_permutes : (logs : List (List Record)) (rs : List Record) → Interleaves logs rs →
    IsPermutation rs (all_records logs)
interleaving_permutes logs rs is =
    permuted_from logs rs 0 (λ i. subst (λ k. of_log k rs ≡ get_or logs i []) (omega arith) (is.each i))
    (all_from_zero rs)

-- ---- the records of one bank

bank_of_all : (bank : ℕ) (logs : List (List Record)) → flat_map (λ xs. xs) (map (of_bank bank) logs)
    ≡ of_bank bank (all_records logs)
bank_of_all bank [] = refl
bank_of_all bank (l ∷ logs) = ap (λ xs. of_bank bank l ++ xs) (bank_of_all bank logs)
    ∙ sym (filter-append (λ r. r.bank == bank) l (all_records logs))

pub interleaving_permutes_bank : (logs : List (List Record)) (rs : List Record) → Interleaves logs rs → (bank : ℕ) →
    IsPermutation (of_bank bank rs) (of_bank bank (all_records logs))
interleaving_permutes_bank logs rs is bank =
    let part : Interleaves (map (of_bank bank) logs) (of_bank bank rs) = record {
      each = λ log. filters_swap (λ r. r.log == log) (λ r. r.bank == bank) rs ∙ ap (of_bank bank) (is.each log)
          ∙ sym (get_or-map (of_bank bank) logs log []);
    } in
    subst (IsPermutation (of_bank bank rs)) (bank_of_all bank logs)
    (interleaving_permutes (map (of_bank bank) logs) (of_bank bank rs) part)

-- ---- what holds of each record of each log

module _ (P : Record → Type 0) where
  head_holds : (r : Record) (rs : List Record) → AllByRecursion P (of_log r.log (r ∷ rs)) → P r
  head_holds r rs h = (subst (AllByRecursion P) (cond-true (r.log == r.log) (r ∷ of_log r.log rs) (of_log r.log rs)
      (eq-eqb r.log r.log refl)) h).0

  rest_holds : (b : Bool) (r : Record) (rs : List Record) → AllByRecursion P (cond b (r ∷ rs) rs) → AllByRecursion P rs
  rest_holds true r rs h = h.1
  rest_holds false r rs h = h

  all_if_by_log : (rs : List Record) → ((log : ℕ) → AllByRecursion P (of_log log rs)) → AllByRecursion P rs
  all_if_by_log [] h = tt
  all_if_by_log (r ∷ rs) h = (
    head_holds r rs (h r.log),
    all_if_by_log rs
        (λ log. rest_holds (r.log == log) r (of_log log rs) (h log)),
  )

pub interleavings_fit : InterleavingsFit
interleavings_fit shape logs rs is fits = all_if_by_log (Fits shape) rs
    (λ log. subst (AllByRecursion (Fits shape)) (sym (is.each log)) (fits log))
