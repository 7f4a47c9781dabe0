-- Which records wait for one another.
use Rattle.std.specs.Prelude.{◌≡◌, ℕ, ◌+◌, ◌%◌, ◌<◌, ◌⊎◌, Bool, ◌==◌, ◌&&◌, List, [], length, map, filter, drop}
use Rattle.std.specs.Prelude.{Option, Some, None, slice_get, slice_index_or}
use Rattle.lf_rules.specs.declared.event.Record.{Record}
use Rattle.lf_rules.specs.declared.ring.Knot.{Knot}
use Rattle.lf_rules.specs.Address.{no_bank}
use Rattle.lf_rules.specs.Ring.{skeletons_of, knot_at, IsRing}
use Rattle.lf_logs.specs.Lists.{logs_of}
use Rattle.explain_history.specs.Places.{places_from, places_of_log}
use Rattle.explain_history.specs.Touching.{record_at}
use Rattle.explain_numbers.specs.Numbered.{IsLeast}
use Rattle.explain_numbers.specs.declared.cycle.Wait.{Wait}

-- the place in the trace of a knot's record
abbrev pub place_of_knot : List Record → Knot → Option ℕ
place_of_knot rs knot = slice_get (places_of_log knot.log rs) knot.at

-- The record stands in the log and names the bank.
abbrev pub stands_in : ℕ → ℕ → Record → Bool
stands_in log bank r = (r.log == log) && (r.bank == bank)

-- the numbers that the records of a log name the bank with
abbrev pub numbers_in : ℕ → ℕ → List Record → List ℕ
numbers_in log bank rs = map (λ r. r.number) (filter (stands_in log bank) rs)

abbrev pub has_number_in : ℕ → ℕ → ℕ → Record → Bool
has_number_in log bank number r = (r.log == log) && (r.bank == bank) && (r.number == number)

-- Of the log's records from this place on that name the bank, this is the place of the one with the least number.
-- There may be none.
abbrev pub IsLeastFrom : List Record → ℕ → ℕ → ℕ → Option ℕ → Type 0
IsLeastFrom rs log bank from place =
    ((numbers_in log bank (drop from rs) ≡ []) × (place ≡ None))
    ⊎ ((least : ℕ) × IsLeast least (numbers_in log bank (drop from rs))
    × (place ≡ slice_get (places_from (has_number_in log bank least) from (drop from rs)) 0))

abbrev pub IsLeastBehind : List Record → Option Record → Option ℕ → Option Record → Option ℕ → Type 0
IsLeastBehind rs (Some waiting) (Some place) (Some next) earlier =
    IsLeastFrom rs next.log waiting.bank (place + 1) earlier
IsLeastBehind rs _ _ _ earlier = earlier ≡ None

-- The record at `waiting` waits for this one: of those that stand behind the one at `next` in its log and name the
-- bank of the one that waits,
-- it has the least number.
abbrev pub IsWaitedFor : List Record → Option ℕ → Option ℕ → Option ℕ → Type 0
IsWaitedFor rs waiting next earlier = IsLeastBehind rs (record_at rs waiting) next (record_at rs next) earlier

abbrev pub no_wait : Wait
no_wait = record { waiting = None; earlier = None }

abbrev pub wait_at : List Wait → ℕ → Wait
wait_at waits j = slice_index_or waits j no_wait

-- The record of each knot waits for a record that stands behind that of the next knot.
pub record AreWaits (rs : List Record) (ring : List Knot) (waits : List Wait) : Type 0 where
  pub len : length waits ≡ length ring
  pub waiting : (j : ℕ) → j < length ring → (wait_at waits j).waiting ≡ place_of_knot rs (knot_at ring j)
  pub earlier : (j : ℕ) → j < length ring
      → IsWaitedFor rs (place_of_knot rs (knot_at ring j)) (place_of_knot rs (knot_at ring ((j + 1) % length ring)))
      (wait_at waits j).earlier

-- ---- that this leaves no order

-- By the numbers of a bank the record at `later` comes after the one at `earlier`.
pub record ComesAfterByNumber (rs : List Record) (later earlier : ℕ) : Type 0 where
  pub one : Record
  pub other : Record
  pub later_is : slice_get rs later ≡ Some one
  pub earlier_is : slice_get rs earlier ≡ Some other
  pub is_bank : one.bank < no_bank
  pub same_bank : other.bank ≡ one.bank
  pub smaller : other.number < one.number

-- By their log the record at `later` comes after the one at `earlier`.
pub record ComesAfterInLog (rs : List Record) (later earlier : ℕ) : Type 0 where
  pub one : Record
  pub other : Record
  pub later_is : slice_get rs later ≡ Some one
  pub earlier_is : slice_get rs earlier ≡ Some other
  pub same_log : other.log ≡ one.log
  pub before : earlier < later

-- The record that waits comes after the one that it waits for, and that one after the next that waits.
pub record IsLink (rs : List Record) (wait next : Wait) : Type 0 where
  pub waiting : ℕ
  pub earlier : ℕ
  pub following : ℕ
  pub waiting_is : wait.waiting ≡ Some waiting
  pub earlier_is : wait.earlier ≡ Some earlier
  pub following_is : next.waiting ≡ Some following
  pub by_number : ComesAfterByNumber rs waiting earlier
  pub by_log : ComesAfterInLog rs earlier following

-- Each record comes after the next, and the last after the first.
pub record IsChain (rs : List Record) (waits : List Wait) : Type 0 where
  pub some_wait : 0 < length waits
  pub links : (j : ℕ) → j < length waits → IsLink rs (wait_at waits j) (wait_at waits ((j + 1) % length waits))

-- Where the knots are a ring in the logs of the records, those that wait for one another come after one another all
-- round.
abbrev pub WaitsAreChains : Type 0
WaitsAreChains = (count : ℕ) (rs : List Record) (ring : List Knot) (waits : List Wait)
    → IsRing (skeletons_of (logs_of count rs)) ring → AreWaits rs ring waits → IsChain rs waits
