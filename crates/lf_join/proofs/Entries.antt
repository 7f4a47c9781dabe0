-- The entries of a log, as the code reads them.
use Rattle.std.proofs.Common.{◌≡◌, ℕ, zero, suc, ◌+◌, ◌-◌, ◌<◌, ◌≤◌, Bool, true, ◌==◌, ◌&&◌, ltb, List, [], ◌∷◌, length}
use Rattle.std.proofs.Common.{get_or, drop, Option, Some, None, refl, sym, ap, ◌∙◌, subst, Bor, eqb-true, eq-eqb, arith}
use mathlib.Core.Path.{ap₂}
use Rattle.std.specs.List.{slice_get, list_any, HoldsAt}
use Rattle.std.specs.Option.{MatchOption, IfSome, IsSome, option_copied}
use Rattle.std.specs.Global.{Vec}
use Rattle.std.proofs.lemmas.Bool.{and_parts, lt-ltb, ltb-true}
use Rattle.std.proofs.lemmas.List.{get_or-map, get_or_past, get_or-drop, length-drop, length-map}
use Rattle.std.proofs.lemmas.List.Folds.{Any-from_list_any, list_any-from_Any}
use Rattle.std.proofs.lemmas.Option.{slice_get-get_or, slice_get_within, get_or_from_slice_get, slice_get_past}
use Rattle.lf_rules.specs.Address.{no_bank}
use Rattle.lf_rules.specs.Order.{log_at}
use Rattle.lf_rules.specs.declared.ring.Knot.{Knot}
use Rattle.lf_rules.specs.Ring.{entry_at, IsWait}
use Rattle.lf_join.specs.Join.{skeleton_lists}

pub entry_at-is : (xs : List (ℕ × ℕ)) (n : ℕ) → entry_at xs n ≡ slice_get xs n
entry_at-is [] n = refl
entry_at-is (x ∷ xs) zero = refl
entry_at-is (x ∷ xs) (suc n) = entry_at-is xs n

pub log_at-lists : (skeletons : List (Vec (ℕ × ℕ))) (log : ℕ) (d : Vec (ℕ × ℕ)) → log < length skeletons →
    log_at (skeleton_lists skeletons) log ≡ (get_or skeletons log d).items
log_at-lists skeletons log d within = get_or-map (λ skeleton. skeleton.items) skeletons log d [] within

pub log_at-past : (skeletons : List (Vec (ℕ × ℕ))) (log : ℕ) → length skeletons ≤ log →
    log_at (skeleton_lists skeletons) log ≡ []
log_at-past skeletons log past =
    get_or_past (skeleton_lists skeletons) log [] (let h : length (skeleton_lists skeletons) ≡ length skeletons =
    length-map skeletons (λ skeleton. skeleton.items) in omega arith)

pub entry_at-get_or : (xs : List (ℕ × ℕ)) (n : ℕ) (x : ℕ × ℕ) → n < length xs → x ≡ get_or xs n x →
    entry_at xs n ≡ Some x
entry_at-get_or xs n x within is = entry_at-is xs n ∙ slice_get-get_or xs n x within ∙ ap Some (sym is)

pub get_or-entry_at : (xs : List (ℕ × ℕ)) (n : ℕ) (x d : ℕ × ℕ) → entry_at xs n ≡ Some x → (n < length xs) ×
    (get_or xs n d ≡ x)
get_or-entry_at xs n x d is = let h : slice_get xs n ≡ Some x = sym (entry_at-is xs n) ∙ is in
    (slice_get_within xs n x h, get_or_from_slice_get xs n x d h)

pub entry_at-past : (xs : List (ℕ × ℕ)) (n : ℕ) → length xs ≤ n → entry_at xs n ≡ None
entry_at-past xs n past = entry_at-is xs n ∙ slice_get_past xs n past

pub entry_at-within : (xs : List (ℕ × ℕ)) (n : ℕ) → n < length xs → entry_at xs n ≡ Some (get_or xs n (0, 0))
entry_at-within xs n within = entry_at-is xs n ∙ slice_get-get_or xs n (0, 0) within

-- an entry of this bank with a smaller number
abbrev pub is_smaller : ℕ → ℕ → ℕ × ℕ → Bool
is_smaller bank number entry = (entry.0 == bank) && ltb entry.1 number

-- such an entry stands at or behind this place
pub record Smaller (xs : List (ℕ × ℕ)) (from bank number : ℕ) : Type 0 where
  pub place : ℕ
  pub behind : from ≤ place
  pub entry : ℕ × ℕ
  pub there : entry_at xs place ≡ Some entry
  pub same_bank : entry.0 ≡ bank
  pub smaller : entry.1 < number

pub smaller_from_test : (xs : List (ℕ × ℕ)) (from bank number : ℕ) →
    list_any (is_smaller bank number) (drop from xs) ≡ true → Smaller xs from bank number
smaller_from_test xs from bank number holds =
    let found = Any-from_list_any (is_smaller bank number) (drop from xs) holds in
    let within : from + found.0 < length xs = omega (arith, length-drop from xs, found.2) in
    let parts = and_parts (found.1.0 == bank) (ltb found.1.1 number) found.4 in
    record {
      place = from + found.0;
      behind = omega arith;
      entry = found.1;
      there = entry_at-get_or xs (from + found.0) found.1 within
          (sym (sym (get_or-drop from xs found.0 found.1) ∙ found.3));
      same_bank = eqb-true found.1.0 bank parts.0;
      smaller = ltb-true found.1.1 number parts.1;
    }

pub test_from_smaller : (xs : List (ℕ × ℕ)) (from bank number : ℕ) → Smaller xs from bank number →
    list_any (is_smaller bank number) (drop from xs) ≡ true
test_from_smaller xs from bank number s =
    let at = get_or-entry_at xs s.place s.entry s.entry s.there in
    let behind = s.behind in
    let same : from + (s.place - from) ≡ s.place = omega arith in
    list_any-from_Any (is_smaller bank number) (drop from xs) (
      s.place - from,
      s.entry,
      omega (arith, length-drop from xs, at.0),
      get_or-drop from xs (s.place - from) s.entry ∙ ap (λ n. get_or xs n s.entry) same ∙ at.1,
      ap₂ (λ x y. x && y) (eq-eqb s.entry.0 bank s.same_bank) (lt-ltb s.entry.1 number s.smaller),
    )

-- the test of the code, at the entry that it read
pub wait_from_smaller : (skeletons : List (List (ℕ × ℕ))) (knot next : Knot) (waiting : ℕ × ℕ) →
    entry_at (log_at skeletons knot.log) knot.at ≡ Some waiting
    → waiting.0 < no_bank → Smaller (log_at skeletons next.log) (next.at + 1) waiting.0 waiting.1 →
    IsWait skeletons knot next
wait_from_smaller skeletons knot next waiting named is_bank s = record {
  waiting = waiting;
  named = named;
  is_bank = is_bank;
  place = s.place;
  behind = let behind = s.behind in omega arith;
  earlier = s.entry;
  there = s.there;
  same_bank = s.same_bank;
  smaller = s.smaller;
}

some_same : {x y : ℕ × ℕ} → ◌≡◌ {A = Option (ℕ × ℕ)} (Some x) (Some y) → x ≡ y
some_same e = cc

pub smaller_from_wait : (skeletons : List (List (ℕ × ℕ))) (knot next : Knot) (waiting : ℕ × ℕ) →
    entry_at (log_at skeletons knot.log) knot.at ≡ Some waiting
    → IsWait skeletons knot next → Smaller (log_at skeletons next.log) (next.at + 1) waiting.0 waiting.1
smaller_from_wait skeletons knot next waiting named w =
    let same : w.waiting ≡ waiting = some_same (sym w.named ∙ named) in
    record {
      place = w.place;
      behind = let behind = w.behind in omega arith;
      entry = w.earlier;
      there = w.there;
      same_bank = w.same_bank ∙ ap (λ (e : ℕ × ℕ). e.0) same;
      smaller = subst (λ n. w.earlier.1 < n) (ap (λ (e : ℕ × ℕ). e.1) same) w.smaller;
    }

pub waits_at_bank : (skeletons : List (List (ℕ × ℕ))) (knot next : Knot) (waiting : ℕ × ℕ) →
    entry_at (log_at skeletons knot.log) knot.at ≡ Some waiting
    → IsWait skeletons knot next → waiting.0 < no_bank
waits_at_bank skeletons knot next waiting named w = subst (λ (e : ℕ × ℕ). e.0 < no_bank)
    (some_same (sym w.named ∙ named)) w.is_bank

pub no_wait : (skeletons : List (List (ℕ × ℕ))) (knot next : Knot) → length (log_at skeletons knot.log) ≤ knot.at →
    IsWait skeletons knot next → ⊥
no_wait skeletons knot next past w =
    let none : ◌≡◌ {A = Option (ℕ × ℕ)} None (Some w.waiting) =
    sym (entry_at-past (log_at skeletons knot.log) knot.at past) ∙ w.named in cc

-- what `get` reads
pub read_is : (xs : List (ℕ × ℕ)) (n : ℕ) (r : Option (Bor (ℕ × ℕ))) →
    MatchOption r (length xs ≤ n) (λ x. (n < length xs) × HoldsAt {X = ℕ × ℕ} (λ y. x.now ≡ y) xs n)
    → IfSome r (λ x. x.now ≡ get_or xs n x.now) → option_copied r ≡ entry_at xs n
read_is xs n None cases value = sym (entry_at-past xs n cases)
read_is xs n (Some x) cases value = sym (entry_at-get_or xs n x.now cases.0 value)

pub read_within : (xs : List (ℕ × ℕ)) (n : ℕ) (r : Option (Bor (ℕ × ℕ))) →
    MatchOption r (length xs ≤ n) (λ x. (n < length xs) × HoldsAt {X = ℕ × ℕ} (λ y. x.now ≡ y) xs n)
    → IsSome (option_copied r) → n < length xs
read_within xs n None cases is = cc
read_within xs n (Some x) cases is = cases.0
