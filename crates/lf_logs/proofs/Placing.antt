-- Records that go to the places of their numbers, by exchanges.
use Rattle.std.proofs.Common.{◌≡◌, ℕ, ◌+◌, ◌<◌, ◌≤◌, zero, suc, Bool, true, false, not, eqb, ltb, List, [], ◌∷◌}
use Rattle.std.proofs.Common.{length, get_or, set, sym, ap, ◌∙◌, subst, arith}
use Rattle.std.specs.List.{All, filter, range_with_len, swap}
use Rattle.std.specs.List.Sorted.{IsPermutation}
use Rattle.std.proofs.lemmas.List.{length-map, length-set, get_or-map, get_or-set_other, map-id}
use Rattle.std.proofs.lemmas.List.Edits.{swap_is}
use Rattle.std.proofs.lemmas.List.Elements.{filter_passes}
use Rattle.std.proofs.lemmas.List.FromFn.{fill_by_all}
use Rattle.std.proofs.lemmas.List.Sorted.{IsPermutation-map, IsPermutation-swap, IsPermutation-trans}
use Rattle.std.proofs.lemmas.List.Sorted.{length_permutation, sum_by-IsPermutation}
use Rattle.std.proofs.lemmas.List.Sums.{sum_by-set, get_or-le-sum_by}
use Rattle.std.proofs.lemmas.Bool.{eq-eqb, ne_eqb, ltb-true}
use Rattle.lf_rules.specs.declared.event.Record.{Record}
use Rattle.lf_rules.specs.declared.event.Event.TheVariants.{Stall}
use Rattle.lf_rules.specs.Numbers.{numbers_of, IsWhole}
use Rattle.lf_logs.proofs.Counting.{counts, one_if, none_if, once_below, filter-all}

-- ---- whole numbers

-- each is below their count
pub whole-inside : (ns : List ℕ) → IsWhole ns → (i : ℕ) → i < length ns → get_or ns i 0 < length ns
whole-inside ns whole i inside =
    let all : filter (λ m. ltb m (length ns)) ns ≡ ns = filter-all (λ m. ltb m (length ns)) ns
    (once_below (length ns) ns whole) in
    let pass : All (λ m. ltb m (length ns) ≡ true) ns = subst (λ ms. All (λ m. ltb m (length ns) ≡ true) ms) all
    (filter_passes (λ m. ltb m (length ns)) ns) in
    ltb-true (get_or ns i 0) (length ns) (pass i 0 inside)

-- and stands at one place only
whole-once : (ns : List ℕ) → IsWhole ns → (i j : ℕ) → i < length ns → j < length ns → (j ≡ i → ⊥) →
    get_or ns i 0 ≡ j → get_or ns j 0 ≡ j → ⊥
whole-once ns whole i j at_i at_j apart is_i is_j =
    let others = set ns i (j + 1) in
    let change = sum_by-set (λ n. counts (eqb n j)) ns i (j + 1) 0 at_i in
    let here = one_if (eqb (get_or ns i 0) j) (eq-eqb (get_or ns i 0) j is_i) in
    let gone = none_if (eqb (j + 1) j) (ne_eqb (j + 1) j (omega arith)) in
    let stays : get_or others j 0 ≡ j = get_or-set_other ns i j (j + 1) 0 apart ∙ is_j in
    let there = one_if (eqb (get_or others j 0) j) (eq-eqb (get_or others j 0) j stays) in
    let some = get_or-le-sum_by (λ n. counts (eqb n j)) others j 0 (omega (arith, length-set ns i (j + 1))) in
    omega (arith, change, here, gone, there, some, whole j at_j)

whole-moved : (xs ys : List Record) → IsPermutation xs ys → IsWhole (numbers_of xs) → IsWhole (numbers_of ys)
whole-moved xs ys moved whole k h =
    let numbers = IsPermutation-map (λ (r : Record). r.number) xs ys moved in
    let same = length_permutation (numbers_of xs) (numbers_of ys) numbers in
    sum_by-IsPermutation (λ n. counts (eqb n k)) (numbers_of xs) (numbers_of ys) numbers ∙ whole k (omega arith)

-- ---- how many records are not at the place of their number

abbrev off : ℕ → Record → ℕ
off n r = counts (not (eqb r.number n))

abbrev pub misplaced : ℕ → List Record → ℕ
misplaced a [] = 0
misplaced a (r ∷ rs) = off a r + misplaced (suc a) rs

misplaced-set : (xs : List Record) (a i n : ℕ) (y d : Record) → a + i ≡ n → i < length xs →
    misplaced a (set xs i y) + off n (get_or xs i d) ≡ misplaced a xs + off n y
misplaced-set [] a i n y d at inside = absurd (omega arith)
misplaced-set (x ∷ xs) a zero n y d at inside =
    let same : a ≡ n = omega arith in
    subst (λ m. (off a y + misplaced (suc a) xs) + off m x ≡ (off a x + misplaced (suc a) xs) + off m y) same
    (omega arith)
misplaced-set (x ∷ xs) a (suc i) n y d at inside =
    let rest = misplaced-set xs (suc a) i n y d (omega arith) (omega arith) in
    omega (arith, rest)

counts-le : (b : Bool) → counts b ≤ 1
counts-le true = omega arith
counts-le false = omega arith

-- a record that goes to its place in exchange for one that was not at its own
misplaced-swap : (xs : List Record) (i j : ℕ) (d : Record) → i < length xs → j < length xs → (j ≡ i → ⊥) →
    (get_or xs i d).number ≡ j → ((get_or xs j d).number ≡ j → ⊥) → misplaced 0 (swap xs i j) < misplaced 0 xs
misplaced-swap xs i j d at_i at_j apart goes came =
    let x = get_or xs i d in
    let y = get_or xs j d in
    let half = set xs i y in
    let first = misplaced-set xs 0 i i y d (omega arith) at_i in
    let long = length-set xs i y in
    let second = misplaced-set half 0 j j x d (omega arith) (omega (arith, long, at_j)) in
    let still : off j (get_or half j d) ≡ off j y = ap (off j) (get_or-set_other xs i j y d apart) in
    let x_off : off i x ≡ 1 = one_if (not (eqb x.number i)) (ap not (ne_eqb x.number i (λ e. apart (sym goes ∙ e)))) in
    let y_off : off j y ≡ 1 = one_if (not (eqb y.number j)) (ap not (ne_eqb y.number j came)) in
    let x_there : off j x ≡ 0 = none_if (not (eqb x.number j)) (ap not (eq-eqb x.number j goes)) in
    let y_here = counts-le (not (eqb y.number i)) in
    let same : misplaced 0 (set half j x) ≡ misplaced 0 (swap xs i j) = ap (misplaced 0) (swap_is xs i j d at_i at_j) in
    omega (arith, first, second, still, x_off, y_off, x_there, y_here, same)

-- ---- the loop

-- the records before `at` are at the places of their numbers
pub record Placed (old now : List Record) (at : ℕ) : Type 0 where
  pub moved : IsPermutation old now
  pub whole : IsWhole (numbers_of now)
  pub within : at ≤ length now
  pub fixed : (k : ℕ) (d : Record) → k < at → (get_or now k d).number ≡ k

number_at : (xs : List Record) (i : ℕ) (d : Record) → i < length xs →
    get_or (numbers_of xs) i 0 ≡ (get_or xs i d).number
number_at xs i d inside = get_or-map (λ (r : Record). r.number) xs i d 0 inside

module _ (old now : List Record) (at : ℕ) (before : Placed old now at) (item : Record) (inside : at < length now)
    (read : item ≡ get_or now at item) where
  pub number_inside : item.number < length now
  number_inside =
      let number : get_or (numbers_of now) at 0 ≡ item.number =
      number_at now at item inside ∙ ap (λ (r : Record). r.number) (sym read) in
      let long = length-map now (λ (r : Record). r.number) in
      omega (arith, whole-inside (numbers_of now) before.whole at (omega arith), number, long)

  -- what stands at its place is not the record that the exchange brings there
  not_yet : (item.number ≡ at → ⊥) → (d : Record) → (get_or now item.number d).number ≡ item.number → ⊥
  not_yet apart d already =
      let long = length-map now (λ (r : Record). r.number) in
      let number : get_or (numbers_of now) at 0 ≡ item.number =
      number_at now at item inside ∙ ap (λ (r : Record). r.number) (sym read) in
      whole-once (numbers_of now) before.whole at item.number (omega arith) (omega (arith, number_inside, long)) apart
      number (number_at now item.number d number_inside ∙ already)

  pub Placed-swap : (next : List Record) → (item.number ≡ at → ⊥) → next ≡ swap now at item.number → Placed old next at
  Placed-swap next apart is =
      let step = IsPermutation-swap now next at item.number inside number_inside is in
      let long : length next ≡ length now = length_permutation now next step in
      record {
        moved = IsPermutation-trans old now next before.moved step;
        whole = whole-moved now next step before.whole;
        within = omega (arith, before.within, long);
        fixed = λ k d h.
            let low : k ≡ item.number → ⊥ = λ e. not_yet apart d
            (ap (λ n. (get_or now n d).number) (sym e) ∙ before.fixed k d h ∙ e) in
            let half = set now at (get_or now item.number d) in
            let same : get_or next k d ≡ get_or now k d =
            ap (λ xs. get_or xs k d) (is ∙ sym (swap_is now at item.number d inside number_inside))
            ∙ get_or-set_other half item.number k (get_or now at d) d low
            ∙ get_or-set_other now at k (get_or now item.number d) d (omega arith) in
            ap (λ (r : Record). r.number) same ∙ before.fixed k d h;
      }

  pub fewer : (next : List Record) → (item.number ≡ at → ⊥) → next ≡ swap now at item.number →
      misplaced 0 next < misplaced 0 now
  fewer next apart is =
      let at_place : (get_or now at item).number ≡ item.number = ap (λ (r : Record). r.number) (sym read) in
      subst (λ xs. misplaced 0 xs < misplaced 0 now) (sym is)
      (misplaced-swap now at item.number item inside number_inside apart at_place (not_yet apart item))

-- a record past the end
nobody : Record
nobody = record { log = 0; bank = 0; number = 0; event = Stall 0 0 }

pub Placed-all : (old now : List Record) (at : ℕ) → Placed old now at → length now ≤ at →
    numbers_of now ≡ range_with_len 0 (length now)
Placed-all old now at done all =
    let long = length-map now (λ (r : Record). r.number) in
    fill_by_all (λ k. k) (numbers_of now) (length now) 0 long
    (λ k h. number_at now k nobody h ∙ done.fixed k nobody (omega arith))
    ∙ map-id (range_with_len 0 (length now))
