-- Which log a log waits for.
use Rattle.std.proofs.Common.{◌≡◌, ℕ, suc, ◌+◌, ◌-◌, ◌<◌, ◌≤◌, true, ◌==◌, inl, inr, List, [], ◌∷◌, ◌++◌, ◌^◌, length}
use Rattle.std.proofs.Common.{get_or}
use Rattle.std.proofs.Common.{drop, slice_index, Option, Some, None, refl, sym, ap, ◌∙◌, subst, eqb-true, eq-eqb, arith}
use mathlib.Core.Path.{ap₂}
use Rattle.std.specs.List.{list_any, All}
use Rattle.std.proofs.lemmas.List.Elements.{All-from_get_or}
use Rattle.std.specs.Global.{Vec}
use Rattle.std.proofs.lemmas.Bool.{and_parts, and_from, cases_lt}
use Rattle.std.proofs.lemmas.List.{get_or-drop, length-drop, length-map}
use Rattle.std.proofs.lemmas.List.Folds.{Any-from_list_any, list_any-from_Any}
use Rattle.lf_rules.specs.Order.{log_at}
use Rattle.lf_rules.specs.Ring.{entry_at}
use Rattle.lf_join.specs.Join.{skeleton_lists}
use Rattle.lf_join.specs.Heads.{next_entry, is_next, holds_next, HeadsWait, Chain}
use Rattle.std.specs.Option.{IsSome, is_some}
use Rattle.lf_join.proofs.Entries.{entry_at-within, entry_at-get_or, get_or-entry_at, log_at-past}
use Rattle.lf_join.proofs.Rounds.{chain_at}

some_same : {x y : ℕ × ℕ} → ◌≡◌ {A = Option (ℕ × ℕ)} (Some x) (Some y) → x ≡ y
some_same e = cc

none_some : {x : ℕ × ℕ} → ◌≡◌ {A = Option (ℕ × ℕ)} None (Some x) → ⊥
none_some e = cc

pub next_there : (xs : List (ℕ × ℕ)) (from bank number : ℕ) → list_any (is_next bank number) (drop from xs) ≡ true
    → (place : ℕ) × (from ≤ place) × (entry_at xs place ≡ Some (bank, number))
next_there xs from bank number holds =
    let found = Any-from_list_any (is_next bank number) (drop from xs) holds in
    let within : from + found.0 < length xs = omega (arith, length-drop from xs, found.2) in
    let parts = and_parts (found.1.0 == bank) (found.1.1 == number) found.4 in
    let is : found.1 ≡ (bank, number) = ap₂ (λ a b. (a, b)) (eqb-true found.1.0 bank parts.0)
    (eqb-true found.1.1 number parts.1) in (
      from + found.0,
      omega arith,
      entry_at-get_or xs (from + found.0) found.1 within
          (sym (sym (get_or-drop from xs found.0 found.1) ∙ found.3)) ∙ ap Some is,
    )

pub test_there : (xs : List (ℕ × ℕ)) (from bank number place : ℕ) → from ≤ place →
    entry_at xs place ≡ Some (bank, number) → list_any (is_next bank number) (drop from xs) ≡ true
test_there xs from bank number place behind is =
    let at = get_or-entry_at xs place (bank, number) (bank, number) is in
    let same : from + (place - from) ≡ place = omega arith in
    list_any-from_Any (is_next bank number) (drop from xs) (
      place - from,
      (bank, number),
      omega (arith, length-drop from xs, at.0),
      get_or-drop from xs (place - from) (bank, number) ∙ ap (λ n. get_or xs n (bank, number)) same ∙ at.1,
      and_from (bank == bank) (number == number) (eq-eqb bank bank refl) (eq-eqb number number refl),
    )

module _ (skeletons : List (List (ℕ × ℕ))) (places next : List ℕ) where
  pub waits_from_test : (log other : ℕ) (waiting : ℕ × ℕ) → next_entry skeletons places log ≡ Some waiting →
      holds_next skeletons places next waiting.0 other ≡ true
      → HeadsWait skeletons places next log other
  waits_from_test log other waiting is holds =
      let found = next_there (log_at skeletons other) (slice_index places other) waiting.0
      (slice_index next waiting.0) holds in
      record { waiting = waiting; first = is; place = found.0; not_gone = found.1; holds = found.2 }

  pub test_from_waits : (log other : ℕ) (waiting : ℕ × ℕ) → next_entry skeletons places log ≡ Some waiting →
      HeadsWait skeletons places next log other
      → holds_next skeletons places next waiting.0 other ≡ true
  test_from_waits log other waiting is w =
      let same : w.waiting ≡ waiting = some_same (sym w.first ∙ is) in
      subst (λ (e : ℕ × ℕ). holds_next skeletons places next e.0 other ≡ true) same
      (test_there (log_at skeletons other) (slice_index places other) w.waiting.0 (slice_index next w.waiting.0)
      w.place w.not_gone w.holds)

pub is_log : (skeletons : List (Vec (ℕ × ℕ))) (places next : List ℕ) (log other : ℕ) →
    HeadsWait (skeleton_lists skeletons) places next log other → other < length skeletons
is_log skeletons places next log other w = elim (cases_lt other (length skeletons)) [
  | inl lt ↦ lt
  | inr past ↦ absurd (none_some (subst (λ (xs : List (ℕ × ℕ)). entry_at xs w.place
      ≡ Some (w.waiting.0, slice_index next w.waiting.0)) (log_at-past skeletons other past) w.holds))
]

-- A log for which another waits has entries left.
pub has_next : (skeletons : List (List (ℕ × ℕ))) (places next : List ℕ) (log other : ℕ) →
    HeadsWait skeletons places next log other → IsSome (next_entry skeletons places other)
has_next skeletons places next log other w =
    let xs = log_at skeletons other in
    let held = get_or-entry_at xs w.place (w.waiting.0, slice_index next w.waiting.0) (0, 0) w.holds in
    let not_gone = w.not_gone in
    let within : slice_index places other < length xs = omega (arith, held.0, not_gone) in
    ap is_some (entry_at-within xs (slice_index places other) within)

-- A log that waits is not past its end.
pub within_log : (skeletons : List (List (ℕ × ℕ))) (places next : List ℕ) (log other : ℕ) →
    HeadsWait skeletons places next log other → slice_index places log < length (log_at skeletons log)
within_log skeletons places next log other w = (get_or-entry_at (log_at skeletons log) (slice_index places log)
    w.waiting (0, 0) w.first).0

-- what a knot of each log of a path needs
pub path_fits : (skeletons : List (Vec (ℕ × ℕ))) (places next path : List ℕ) (last : ℕ) → length skeletons ≤ 32 →
    All (λ skeleton. length skeleton ≤ 2 ^ 24) (skeleton_lists skeletons)
    → Chain (HeadsWait (skeleton_lists skeletons) places next) path last → All (λ log. log < length skeletons) path →
    All (λ log. (log < 32) × (slice_index places log < 2 ^ 32)) path
path_fits skeletons places next path last few short chain logs =
    All-from_get_or (λ log. (log < 32) × (slice_index places log < 2 ^ 32)) path 0 each
  where
    each : (k : ℕ) → k < length path → (slice_index path k < 32) × (slice_index places (slice_index path k) < 2 ^ 32)
    each k lt =
        let log = slice_index path k in
        let is = logs k 0 lt in
        let within =
        within_log (skeleton_lists skeletons) places next log (slice_index (path ++ last ∷ []) (suc k))
        (chain_at (HeadsWait (skeleton_lists skeletons) places next) path last k chain lt) in
        let len : length (skeleton_lists skeletons) ≡ length skeletons =
        length-map skeletons (λ skeleton. skeleton.items) in
        let small = short log [] (omega (arith, is, len)) in
        (omega (arith, is, few), omega (arith, within, small))

pub some_there : (o : Option (ℕ × ℕ)) → IsSome o → (x : ℕ × ℕ) × (o ≡ Some x)
some_there None is = cc
some_there (Some x) is = (x, refl)
