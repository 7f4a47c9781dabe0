-- Which records tell why the numbers of a trace give no order.
use Rattle.std.specs.Prelude.{◌≡◌, ℕ, List}
use Rattle.lf_rules.specs.declared.event.Record.{Record}
use Rattle.lf_rules.specs.declared.ring.Knot.{Knot}
use Rattle.explain_numbers.specs.declared.reason.Reason.{Reason}
use Rattle.explain_numbers.specs.declared.reason.Reason.TheVariants.{Double, Missing, Cycle}
use Rattle.explain_numbers.specs.Numbered.{places_of_number, AreGreatestBelow, AreLeastAbove}
use Rattle.explain_numbers.specs.Cycle.{AreWaits}

-- It tells of all records that have this number of the bank.
abbrev pub TellsDouble : List Record → ℕ → ℕ → Reason → Type 0
TellsDouble rs bank number (Double b n places) = (b ≡ bank) × (n ≡ number) ×
    (places.items ≡ places_of_number bank number rs)
TellsDouble rs bank number _ = ⊥

-- It tells of the bank's records with the greatest number below this one, and of those with the least above.
abbrev pub TellsMissing : List Record → ℕ → ℕ → Reason → Type 0
TellsMissing rs bank number (Missing b n below above) =
    (b ≡ bank) × (n ≡ number) × AreGreatestBelow rs bank number below.items × AreLeastAbove rs bank number above.items
TellsMissing rs bank number _ = ⊥

-- It tells what the record of each knot waits for.
abbrev pub TellsCycle : List Record → List Knot → Reason → Type 0
TellsCycle rs ring (Cycle waits) = AreWaits rs ring waits.items
TellsCycle rs ring _ = ⊥
