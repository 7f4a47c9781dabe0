-- The worked examples of rings, orders and numbers.
use Rattle.std.proofs.Common.{◌≡◌, ℕ, zero, suc, ◌+◌, ◌%◌, ◌<◌, List, [], ◌∷◌, inl, refl, lit<, arith}
use Rattle.lf_rules.specs.declared.ring.Knot.{Knot}
use Rattle.lf_rules.specs.Ring.{knot_at, IsWait, IsRing}
use Rattle.lf_rules.specs.Order.{log_at, Takes, IsNotAbove}
use Rattle.lf_rules.specs.Numbers.{IsMissing, IsDouble}

abbrev knot : ℕ → Knot
knot log = record { log = log; at = 0 }

-- ---- two logs that wait for one another

abbrev two_logs : List (List (ℕ × ℕ))
two_logs = ((0, 1) ∷ (1, 0) ∷ []) ∷ ((1, 1) ∷ (0, 0) ∷ []) ∷ []

abbrev two_knots : List Knot
two_knots = knot 0 ∷ knot 1 ∷ []

two_waits : (j : ℕ) → j < 2 → IsWait two_logs (knot_at two_knots j) (knot_at two_knots ((j + 1) % 2))
two_waits zero lt = record {
  waiting = (0, 1);
  named = refl;
  is_bank = lit< tt;
  place = 1;
  behind = lit< tt;
  earlier =
      (0, 0);
  there = refl;
  same_bank = refl;
  smaller = lit< tt;
}
two_waits (suc zero) lt = record {
  waiting = (1, 1);
  named = refl;
  is_bank = lit< tt;
  place = 1;
  behind =
      lit< tt;
  earlier = (1, 0);
  there = refl;
  same_bank = refl;
  smaller = lit< tt;
}
two_waits (suc (suc j)) lt = absurd (omega arith)

cycle_of_two_logs : IsRing two_logs two_knots
cycle_of_two_logs = record { some_knot = lit< tt; waits = two_waits }

-- ---- a log that waits for itself

abbrev one_log : List (List (ℕ × ℕ))
one_log = ((0, 1) ∷ (0, 0) ∷ []) ∷ []

one_wait : (j : ℕ) → j < 1 → IsWait one_log (knot_at (knot 0 ∷ []) j) (knot_at (knot 0 ∷ []) ((j + 1) % 1))
one_wait zero lt = record {
  waiting = (0, 1);
  named = refl;
  is_bank = lit< tt;
  place = 1;
  behind = lit< tt;
  earlier =
      (0, 0);
  there = refl;
  same_bank = refl;
  smaller = lit< tt;
}
one_wait (suc j) lt = absurd (omega arith)

cycle_of_one_log : IsRing one_log (knot 0 ∷ [])
cycle_of_one_log = record { some_knot = lit< tt; waits = one_wait }

-- ---- missing and double numbers

gap_of_two : IsMissing (0 ∷ 1 ∷ 3 ∷ []) 2
gap_of_two = (refl, (3, lit< tt, lit< tt))

double_of_one : IsDouble (0 ∷ 1 ∷ 1 ∷ []) 1
double_of_one = lit< tt

gap_of_one : IsMissing (0 ∷ 2 ∷ 2 ∷ []) 1
gap_of_one = (refl, (2, lit< tt, lit< tt))

-- ---- an order

abbrev load_skeletons : List (List (ℕ × ℕ))
load_skeletons = ((0, 0) ∷ (0, 5) ∷ []) ∷ ((0, 1) ∷ (0, 2) ∷ (0, 3) ∷ (0, 4) ∷ []) ∷ []

both_empty : (log : ℕ) → log_at {T = ℕ × ℕ} ([] ∷ [] ∷ []) log ≡ []
both_empty zero = refl
both_empty (suc zero) = refl
both_empty (suc (suc log)) = refl

load_misses_both_levels : Takes load_skeletons (0 ∷ 1 ∷ 1 ∷ 1 ∷ 1 ∷ 0 ∷ [])
    ((0, 0) ∷ (0, 1) ∷ (0, 2) ∷ (0, 3) ∷ (0, 4) ∷ (0, 5) ∷ [])
load_misses_both_levels = (refl, (refl, (refl, (refl, (refl, (refl, both_empty))))))

earlier_first : IsNotAbove (0 ∷ 1 ∷ []) (1 ∷ 0 ∷ [])
earlier_first = inl (lit< tt)
