-- Rings of logs that wait for one another.
use Rattle.std.specs.Prelude.{◌≡◌, ℕ, zero, suc, ◌+◌, ◌%◌, ◌<◌, List, [], ◌∷◌, map, length, slice_index_or, Option}
use Rattle.std.specs.Prelude.{Some, None}
use Rattle.lf_rules.specs.declared.event.Record.{Record}
use Rattle.lf_rules.specs.declared.ring.Knot.{Knot}
use Rattle.lf_rules.specs.Address.{no_bank}
use Rattle.lf_rules.specs.Run.{Interleaves, KeepsNumbers}

-- bank and number of a record, and of each record of each log
abbrev pub entry_of : Record → ℕ × ℕ
entry_of r = (r.bank, r.number)

abbrev pub skeletons_of : List (List Record) → List (List (ℕ × ℕ))
skeletons_of logs = map (map entry_of) logs

abbrev pub entry_at : List (ℕ × ℕ) → ℕ → Option (ℕ × ℕ)
entry_at [] n = None
entry_at (entry ∷ entries) zero = Some entry
entry_at (entry ∷ entries) (suc n) = entry_at entries n

-- The knot's record waits for one of its bank with a smaller number, which stands after the next knot's place.
pub record IsWait (skeletons : List (List (ℕ × ℕ))) (knot next : Knot) : Type 0 where
  pub waiting : ℕ × ℕ
  pub named : entry_at (slice_index_or skeletons knot.log []) knot.at ≡ Some waiting
  pub is_bank : waiting.0 < no_bank
  pub place : ℕ
  pub behind : next.at < place
  pub earlier : ℕ × ℕ
  pub there : entry_at (slice_index_or skeletons next.log []) place ≡ Some earlier
  pub same_bank : earlier.0 ≡ waiting.0
  pub smaller : earlier.1 < waiting.1

abbrev pub no_knot : Knot
no_knot = record { log = 0; at = 0 }

abbrev pub knot_at : List Knot → ℕ → Knot
knot_at ring j = slice_index_or ring j no_knot

-- each knot waits for the next, and the last for the first
pub record IsRing (skeletons : List (List (ℕ × ℕ))) (ring : List Knot) : Type 0 where
  pub some_knot : 0 < length ring
  pub waits : (j : ℕ) → j < length ring → IsWait skeletons (knot_at ring j) (knot_at ring ((j + 1) % length ring))

-- where logs wait in a ring, no list of all logs keeps the numbers
abbrev pub RingsAdmitNone : Type 0
RingsAdmitNone = (logs : List (List Record)) (ring : List Knot) → IsRing (skeletons_of logs) ring →
    (rs : List Record) → Interleaves logs rs → KeepsNumbers rs → ⊥
