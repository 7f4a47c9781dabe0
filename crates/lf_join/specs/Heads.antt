-- How far the logs have gone, as the join keeps it: per log the place of its next entry, per bank the number that
-- goes next.
use Rattle.std.specs.Prelude.{◌≡◌, ◌≢◌, ℕ, ◌+◌, ◌<◌, ◌≤◌, Bool, false, not, nat_lt, ◌==◌, ◌&&◌, ◌||◌}
use Rattle.std.specs.Prelude.{List, [], ◌∷◌, length, map, drop, slice_index, slice_set, AllPairs, Option, Some, None}
use Rattle.std.specs.List.{list_any}
use Rattle.lf_rules.specs.declared.ring.Knot.{Knot}
use Rattle.lf_rules.specs.Address.{no_bank}
use Rattle.lf_rules.specs.Order.{log_at, EntriesKeepNumbers, IsOrder, IsLeastOrder}
use Rattle.lf_rules.specs.Ring.{entry_at}
use Rattle.lf_join.specs.Join.{TakesUpTo, next_number, Leads}

-- the next entry of a log
abbrev pub next_entry : List (List (ℕ × ℕ)) → List ℕ → ℕ → Option (ℕ × ℕ)
next_entry skeletons places log = entry_at (log_at skeletons log) (slice_index places log)

-- whether an entry may go: it names no bank, or carries its bank's next number
abbrev pub is_due : List ℕ → ℕ × ℕ → Bool
is_due next entry = not (nat_lt entry.0 no_bank) || (entry.1 == slice_index next entry.0)

abbrev pub carries_next : List ℕ → Option (ℕ × ℕ) → Bool
carries_next next None = false
carries_next next (Some entry) = is_due next entry

-- whether the log's next entry may go
abbrev pub can_go : List (List (ℕ × ℕ)) → List ℕ → List ℕ → ℕ → Bool
can_go skeletons places next log = carries_next next (next_entry skeletons places log)

-- an entry that carries its bank's next number
abbrev pub is_next : ℕ → ℕ → ℕ × ℕ → Bool
is_next bank number entry = (entry.0 == bank) && (entry.1 == number)

-- whether an entry of the log that has not gone carries the bank's next number
abbrev pub holds_next : List (List (ℕ × ℕ)) → List ℕ → List ℕ → ℕ → ℕ → Bool
holds_next skeletons places next bank log = list_any (is_next bank (slice_index next bank))
    (drop (slice_index places log) (log_at skeletons log))

-- The log's next entry goes: its log's place moves on by one, and the number behind its own is its bank's next.
pub record Advances (skeletons : List (List (ℕ × ℕ))) (places next : List ℕ) (log : ℕ)
    (new_places new_next : List ℕ) : Type 0 where
  pub entry : ℕ × ℕ
  pub there : next_entry skeletons places log ≡ Some entry
  pub is_bank : entry.0 < 256
  pub moved : new_places ≡ slice_set places log (slice_index places log + 1)
  pub counted : new_next ≡ slice_set next entry.0 (entry.1 + 1)

-- The order has taken these entries, which keep the numbers; each place is that of a log's next entry, and each
-- number that which a bank's next entry carries.
pub record IsAt (skeletons : List (List (ℕ × ℕ))) (order places next : List ℕ) : Type 0 where
  pub gone : List (ℕ × ℕ)
  pub left : List (List (ℕ × ℕ))
  pub taken : TakesUpTo skeletons order gone left
  pub kept : EntriesKeepNumbers gone
  pub placed : (log : ℕ) → log_at left log ≡ drop (slice_index places log) (log_at skeletons log)
  pub counted : (bank : ℕ) → bank < no_bank → slice_index next bank ≡ next_number gone bank

-- The least entries have gone as far as any can: where none is left the order is the least, and otherwise there is
-- none.
pub record IsMerged (skeletons : List (List (ℕ × ℕ))) (order places next : List ℕ) : Type 0 where
  pub is_at : IsAt skeletons order places next
  pub nothing_goes : (log : ℕ) → can_go skeletons places next log ≡ false
  pub whole : ((log : ℕ) → next_entry skeletons places log ≡ None) → IsLeastOrder skeletons order
  pub none : (log : ℕ) (entry : ℕ × ℕ) → next_entry skeletons places log ≡ Some entry → (other : List ℕ) →
      IsOrder skeletons other → ⊥

-- ---- the ring

-- The log's next entry names a bank whose next number the other log holds.
pub record HeadsWait (skeletons : List (List (ℕ × ℕ))) (places next : List ℕ) (log other : ℕ) : Type 0 where
  pub waiting : ℕ × ℕ
  pub first : next_entry skeletons places log ≡ Some waiting
  pub place : ℕ
  pub not_gone : slice_index places other ≤ place
  pub holds : entry_at (log_at skeletons other) place ≡ Some (waiting.0, slice_index next waiting.0)

-- Each log with entries left waits for a log.
abbrev pub AllWait : List (List (ℕ × ℕ)) → List ℕ → List ℕ → Type 0
AllWait skeletons places next = (log : ℕ) (waiting : ℕ × ℕ) → next_entry skeletons places log ≡ Some waiting
    → (other : ℕ) × HeadsWait skeletons places next log other

abbrev pub first_or : List ℕ → ℕ → ℕ
first_or [] other = other
first_or (log ∷ logs) other = log

-- each log waits for the next, and the last for this one
abbrev pub Chain : (ℕ → ℕ → Type 0) → List ℕ → ℕ → Type 0
Chain waits [] last = Unit {0}
Chain waits (log ∷ logs) last = waits log (first_or logs last) × Chain waits logs last

-- The waits of distinct logs lead from the start to this log.
pub record IsPath (waits : ℕ → ℕ → Type 0) (start : ℕ) (path : List ℕ) (log : ℕ) : Type 0 where
  pub starts : first_or path log ≡ start
  pub chain : Chain waits path log
  pub apart : AllPairs (λ a b. a ≢ b) path

-- The logs wait in a round, once, from its lowest log on, and the waits lead to it from the start.
pub record IsRound (waits : ℕ → ℕ → Type 0) (start : ℕ) (logs : List ℕ) : Type 0 where
  pub some_log : 0 < length logs
  pub chain : Chain waits logs (slice_index logs 0)
  pub lowest : (j : ℕ) → 0 < j → j < length logs → slice_index logs 0 < slice_index logs j
  pub path : List ℕ
  pub led : Leads waits start path (slice_index logs 0)

abbrev pub knot_of : List ℕ → ℕ → Knot
knot_of places log = record { log = log; at = slice_index places log }

abbrev pub IsRingAt : List (List (ℕ × ℕ)) → List ℕ → List ℕ → ℕ → List Knot → Type 0
IsRingAt skeletons places next start ring = (logs : List ℕ) × IsRound (HeadsWait skeletons places next) start logs ×
    (ring ≡ map (knot_of places) logs)
