-- The laws of the join's answers.
use Rattle.std.specs.Prelude.{◌≡◌, ℕ, List}
use Rattle.lf_rules.specs.declared.ring.Knot.{Knot}
use Rattle.lf_rules.specs.Order.{IsLeastOrder}
use Rattle.lf_join.specs.Join.{BanksAreWhole, HasNoOrder, IsStuckRing}

-- there is one least order at most
abbrev pub LeastOrdersAreOne : Type 0
LeastOrdersAreOne = (skeletons : List (List (ℕ × ℕ))) (order other : List ℕ) → IsLeastOrder skeletons order →
    IsLeastOrder skeletons other → order ≡ other

-- where a ring is met there is no order
abbrev pub StuckRingsAdmitNone : Type 0
StuckRingsAdmitNone = (skeletons : List (List (ℕ × ℕ))) (ring : List Knot) → IsStuckRing skeletons ring →
    HasNoOrder skeletons

-- where the numbers are whole, however the logs went, the same ring is met
abbrev pub StuckRingsAreOne : Type 0
StuckRingsAreOne = (skeletons : List (List (ℕ × ℕ))) (ring other : List Knot) → BanksAreWhole skeletons
    → IsStuckRing skeletons ring → IsStuckRing skeletons other → ring ≡ other
