-- What holds of the banks' words and of the seats' views between any two steps.
use Rattle.std.specs.Prelude.{◌≡◌, ℕ, ◌+◌, ◌^◌, ◌<◌, ◌≤◌, List, [], ◌∷◌, ◌++◌, length, slice_get, slice_index, Some}
use Rattle.std.specs.Prelude.{All}
use mathlib.Core.Option.{some}
use lib.ListN.{get_elem?}
use Rattle.atomic_table.specs.Table.{State, Me, Step}
use Rattle.lf_rules.specs.declared.event.Record.{Record}
use Rattle.lf_rules.specs.declared.event.Event.{Event}
use Rattle.lf_rules.specs.declared.event.Event.TheVariants.{Fence}
use Rattle.lf_rules.specs.Address.{no_bank}
use Rattle.lf_recorder.specs.declared.rule.View.{View}
use Rattle.lf_recorder.specs.declared.rule.View.TheVariants.{Collector, Log, Spent}
use Rattle.lf_rules.specs.Run.{of_log, of_bank}

-- the records of each bank carry 0, 1, 2, .. in their order; those that name no bank are not among them
abbrev pub CountsUp : List Record → Type 0
CountsUp all = (bank k : ℕ) (r : Record) → bank < no_bank → slice_get (of_bank bank all) k ≡ Some r → r.number ≡ k

abbrev pub DeskState : Type 0
DeskState = State (Unit {0}) View

abbrev pub Mine : Type 0
Mine = Me (Unit {0}) View

-- the desk's view at the start
abbrev pub new_collector : View
new_collector = Collector 0 []

-- the view fits the list: a log's seat has the log's records; the desk has those of each log that it took in, whose
-- seat is spent
abbrev pub FitsSeat : List Record → List View → ℕ → View → Type 0
FitsSeat all views seat (Collector made joined) =
    (seat ≡ 0) × (length views ≡ made + 1)
    × ((k : ℕ) (x : ℕ × List Record) → slice_get joined k ≡ Some x → (of_log x.0 all ≡ x.1) ×
    (get_elem? views (x.0 + 1) ≡ some Spent))
FitsSeat all views seat (Log log records) = (seat ≡ log + 1) × (of_log log all ≡ records)
FitsSeat all views seat Spent = Unit {0}

-- the list of the records of all logs, beside the words and the views
pub record IsListOf (banks : ℕ) (s : DeskState) (all : List Record) : Type 0 where
  pub words : length s.words ≡ banks
  pub counts : (bank : ℕ) → bank < no_bank → length (of_bank bank all) ≡ slice_index s.words bank
  pub numbers : CountsUp all
  pub short : (log : ℕ) → length (of_log log all) ≤ 2 ^ 24
  pub few : length s.views ≤ 33
  pub unmade : (log : ℕ) → length s.views ≤ log + 1 → of_log log all ≡ []
  pub seats : (seat : ℕ) (v : View) → get_elem? s.views seat ≡ some v → FitsSeat all s.views seat v

-- there is such a list
abbrev pub HasRecords : ℕ → DeskState → Type 0
HasRecords banks s = (all : List Record) × IsListOf banks s all

abbrev pub records_of : View → List Record
records_of (Collector made joined) = []
records_of (Log log records) = records
records_of Spent = []

-- the view after a record with this number
abbrev pub drew : View → ℕ → ℕ → Event → View
drew (Collector made joined) bank number event = Collector made joined
drew (Log log records) bank number event = Log log (records
    ++ record { log = log; bank = bank; number = number; event = event } ∷ [])
drew Spent bank number event = Spent

-- what a log's records are followed by at a fence
abbrev pub fence_of : ℕ → Record
fence_of log = record { log = log; bank = no_bank; number = 0; event = Fence }

-- the view after a fence
abbrev pub passed : View → View
passed (Collector made joined) = Collector made joined
passed (Log log records) = Log log (records ++ fence_of log ∷ [])
passed Spent = Spent

-- the number is above those that these records carry at that bank
abbrev pub IsAbove : ℕ → ℕ → List Record → Type 0
IsAbove number bank records = All (λ (r : Record). r.bank ≡ bank → r.number < number) records

-- a draw appends a record with the number found
abbrev pub Draws : Event → Step (Unit {0}) → Mine → ℕ → Mine → Type 0
Draws event st me found me' = (found < 2 ^ 29) × IsAbove found st.word (records_of me.0) ×
    (me' ≡ (drew me.0 st.word found event, me.1))

-- a fence appends its record, whatever was found
abbrev pub Passes : Step (Unit {0}) → Mine → ℕ → Mine → Type 0
Passes st me found me' = me' ≡ (passed me.0, me.1)

-- the desk's view with one more log, and that log's
abbrev pub one_more : View → View
one_more (Collector made joined) = Collector (made + 1) joined
one_more (Log log records) = Log log records
one_more Spent = Spent

abbrev pub next_log : View → View
next_log (Collector made joined) = Log made []
next_log (Log log records) = Spent
next_log Spent = Spent

-- the desk's view with the records of a log that it took in
abbrev pub with_log : View → View → View
with_log (Collector made joined) (Log log records) = Collector made (joined ++ (log, records) ∷ [])
with_log v w = v
