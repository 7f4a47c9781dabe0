-- An order of records: each log in its own order and the records of each bank by their numbers, as far as they go, and
-- no further than to the record that is sought. Of those that may come, the one of the least rank comes.
use Rattle.std.specs.Prelude.{◌≡◌, ◌⊎◌, ℕ, ◌-◌, ◌^◌, min, ◌<◌, ◌==◌, ◌&&◌, ◌||◌, not, nat_lt, Bool, true, false}
use Rattle.std.specs.Prelude.{List, [], ◌∷◌, ◌++◌, length, filter, Option}
use Rattle.explain_lines.specs.declared.times.Times.{Times}
use Rattle.lf_rules.specs.declared.event.Record.{Record}
use Rattle.lf_rules.specs.Address.{no_bank}
use Rattle.lf_rules.specs.Run.{of_log, of_bank, KeepsNumbers}
use Rattle.wave_order.specs.declared.sought.Entry.{Entry}
use Rattle.wave_order.specs.declared.sought.Sought.{Sought}
use Rattle.wave_order.specs.declared.sought.Sought.TheVariants.{Nothing, InLog, InBank}
use Rattle.wave_order.specs.Ordered.{without_next, in_order, left_by}
use Rattle.wave_order.specs.Times.{rank_of}

-- ---- which record is sought

abbrev pub entry_of : Record → Entry
entry_of r = record { log = r.log; bank = r.bank; number = r.number }

-- it stands in the log in which one is sought
abbrev pub counts_entry : Sought → Entry → Bool
counts_entry (InLog log at) e = e.log == log
counts_entry _ e = false

-- it is the one that is sought, where so many stand before it in its log
abbrev pub is_entry_sought : Sought → ℕ → Entry → Bool
is_entry_sought Nothing before e = false
is_entry_sought (InLog log at) before e = (e.log == log) && (before == at)
is_entry_sought (InBank bank number) before e = (e.bank == bank) && (e.number == number)

abbrev pub is_counted : Sought → Record → Bool
is_counted sought r = counts_entry sought (entry_of r)

-- Behind these records, this one is the one that is sought.
abbrev pub IsSought : Sought → List Record → Record → Type 0
IsSought sought records r = is_entry_sought sought (length (filter (is_counted sought) records)) (entry_of r) ≡ true

-- ---- how far records go

-- after these, the record may come: it names no bank, or has the next number of its bank
abbrev pub is_due : List Record → Record → Bool
is_due gone r = not (nat_lt r.bank no_bank) || (r.number == length (of_bank r.bank gone))

-- After these, no log's next record of the others may come.
abbrev pub NoneMayCome : List Record → List Record → Type 0
NoneMayCome gone others = (log : ℕ) (r : Record) (rest : List Record) → of_log log others ≡ r ∷ rest →
    is_due gone r ≡ false

-- how many of the log came, as far as 64 bits go
abbrev pub came : ℕ → List Record → ℕ
came log gone = min (length (of_log log gone)) (2 ^ 64 - 1)

-- after these, the rank of the log's next record
abbrev pub rank : Option Times → List Record → ℕ → ℕ
rank times gone log = rank_of times log (came log gone)

-- the one of this rank and log is before the other: its rank is less, or it is the same and its log is lower
abbrev pub IsBefore : ℕ → ℕ → ℕ → ℕ → Type 0
IsBefore mine log others other = (mine < others) ⊎ ((mine ≡ others) × (log < other))

-- After these, no other log's next record that may come is before that of this log.
abbrev pub IsFirst : Option Times → List Record → List Record → ℕ → Type 0
IsFirst times gone others log = (other : ℕ) (r : Record) (rest : List Record) → of_log other others ≡ r ∷ rest →
    is_due gone r ≡ true → ¬ IsBefore (rank times gone other) other (rank times gone log) log

-- After these, each place names the log whose next record of the others is the first of those that may come.
abbrev pub NamesFirst : Option Times → List Record → List Record → List ℕ → Type 0
NamesFirst times gone others [] = Unit {0}
NamesFirst times gone others (log ∷ order) = IsFirst times gone others log
    × NamesFirst times (gone ++ in_order (log ∷ []) others) (without_next log others) order

-- The last one of these is the one that is sought.
pub record EndsWith (sought : Sought) (records : List Record) : Type 0 where
  pub before : List Record
  pub last : Record
  pub all : records ≡ before ++ last ∷ []
  pub is_sought : IsSought sought before last

-- Either the last one is the one that is sought, or no other record may come.
abbrev pub Ends : Sought → Bool → List Record → List Record → Type 0
Ends sought true drawn others = EndsWith sought drawn
Ends sought false drawn others = NoneMayCome drawn others

-- What the order takes from these records.
pub record IsOrderTo (times : Option Times) (sought : Sought) (records : List Record) (order : List ℕ)
    (reached : Bool) : Type 0 where
  -- Each place has the next record of the log that it names.
  pub all_places : length (in_order order records) ≡ length order
  pub numbers : KeepsNumbers (in_order order records)
  pub firsts : NamesFirst times [] records order
  pub ends : Ends sought reached (in_order order records) (left_by order records)
