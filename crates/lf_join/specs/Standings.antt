-- Where the logs stand in a merge: each can go, or waits at a bank, or has nothing left.
use Rattle.std.specs.Prelude.{◌≡◌, ◌≢◌, ⊤, ℕ, ◌%◌, ◌<◌, Bool, true, false, ◌==◌, ◌&&◌, if◌then◌else◌}
use Rattle.std.specs.Prelude.{List, [], length, slice_index, slice_index_or, Option, Some, None}
use Rattle.lf_rules.specs.Address.{no_bank}
use Rattle.lf_join.specs.declared.log_set.LogSet.{LogSet}
use Rattle.lf_join.specs.declared.roster.Roster.{Roster}
use Rattle.lf_join.specs.LogSets.{has}
use Rattle.lf_join.specs.Heads.{next_entry, is_due}

pub data Standing : Type 0 where
  Nowhere : Standing
  Goes : Standing
  Waits : ℕ → ℕ → Standing

-- A log whose next entry may go can go, and any other waits at the bank for its number.
abbrev pub standing_of : List ℕ → Option (ℕ × ℕ) → Standing
standing_of next None = Nowhere
standing_of next (Some entry) = if is_due next entry then Goes else Waits entry.0 entry.1

abbrev pub is_going : Standing → Bool
is_going Nowhere = false
is_going Goes = true
is_going (Waits bank number) = false

-- whether it waits in this set of the bank's: a number's set is the one of its remainder
abbrev pub is_waiting : Standing → ℕ → ℕ → Bool
is_waiting Nowhere at set = false
is_waiting Goes at set = false
is_waiting (Waits bank number) at set = (bank == at) && (number % 32 == set)

-- the number kept of a log that waits is the one that it waits for
abbrev pub IsKeptNumber : Standing → ℕ → Type 0
IsKeptNumber Nowhere kept = ⊤
IsKeptNumber Goes kept = ⊤
IsKeptNumber (Waits bank number) kept = kept ≡ number

-- the logs that wait in this set of the bank's
abbrev pub waiting_at : Roster → ℕ → ℕ → LogSet
waiting_at roster bank set = slice_index_or (slice_index_or roster.waiting bank []) set (record { 0 = 0 })

-- each bank has its sets, and each log its number
pub record IsSized (roster : Roster) : Type 0 where
  pub banks : length roster.waiting ≡ 256
  pub sets : (bank : ℕ) → bank < 256 → length (slice_index_or roster.waiting bank []) ≡ 32
  pub numbers : length roster.numbers ≡ 32

-- The roster has the log where it stands, and nowhere else.
pub record Stands (roster : Roster) (log : ℕ) (standing : Standing) : Type 0 where
  pub sized : IsSized roster
  pub going : has roster.ready log ≡ is_going standing
  pub waiting : (bank set : ℕ) → bank < 256 → set < 32 → has (waiting_at roster bank set) log
      ≡ is_waiting standing bank set
  pub kept : IsKeptNumber standing (slice_index roster.numbers log)

-- Each other log stands where it stood.
abbrev pub OthersStay : Roster → Roster → ℕ → Type 0
OthersStay old new log = (other : ℕ) (standing : Standing) → other < 32 → other ≢ log → Stands old other standing →
    Stands new other standing

-- A log that waits for the number that a bank calls goes from now on, and any other stands where it stood.
abbrev pub once_called : Standing → ℕ → ℕ → Standing
once_called Nowhere at called = Nowhere
once_called Goes at called = Goes
once_called (Waits bank number) at called = if (bank == at) && (number == called) then Goes else Waits bank number

abbrev pub IsCalled : Roster → Roster → ℕ → ℕ → Type 0
IsCalled old new bank number = (log : ℕ) (standing : Standing) → log < 32 → Stands old log standing →
    Stands new log (once_called standing bank number)

-- Each log stands where its next entry says.
abbrev pub AllStand : List (List (ℕ × ℕ)) → List ℕ → List ℕ → Roster → Type 0
AllStand skeletons places next roster = (log : ℕ) → log < 32 →
    Stands roster log (standing_of next (next_entry skeletons places log))

-- no other log's next entry is that of this log, where it names a bank
abbrev pub IsItsOwn : List (List (ℕ × ℕ)) → List ℕ → ℕ → Type 0
IsItsOwn skeletons places log = (other : ℕ) (entry : ℕ × ℕ) → other ≢ log → entry.0 < no_bank
    → next_entry skeletons places log ≡ Some entry → next_entry skeletons places other ≢ Some entry
