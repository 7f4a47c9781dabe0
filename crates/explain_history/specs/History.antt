-- What came before a record.
use Rattle.std.specs.Prelude.{◌≡◌, ℕ, ◌-◌, Bool, true, false, ◌==◌, List, [], length, take, drop, map, filter, Option}
use Rattle.std.specs.Prelude.{Some, None, slice_get}
use Rattle.lf_rules.specs.declared.event.Record.{Record}
use Rattle.lf_rules.specs.declared.shape.Shape.{Shape}
use Rattle.lf_rules.specs.Run.{of_bank}
use Rattle.explain_history.specs.declared.history.History.{History}
use Rattle.explain_history.specs.Places.{places_of_log, place_of_number, places_of_numbers}
use Rattle.explain_history.specs.Touching.{Touch, touched, record_at, all_before, touches}

-- the last of a list, at most so many
abbrev pub last : {T : Type 0} → ℕ → List T → List T
last most xs = drop (length xs - most) xs

-- The record at a place of a port's log, and the last before it in that log.
pub record IsHistoryInLog (rs : List Record) (port at most : ℕ) (history : History) : Type 0 where
  pub place : history.place ≡ slice_get (places_of_log port rs) at
  pub before : history.before.items ≡ last most (take at (places_of_log port rs))

-- Where the block that was asked about is known, it is this one.
abbrev pub is_about : Option ℕ → Option ℕ → Bool
is_about None second = true
is_about (Some wanted) None = false
is_about (Some wanted) (Some second) = second == wanted

-- the places of those that touch this block
abbrev pub about : Option ℕ → List Touch → List ℕ
about wanted all = map (λ touch. touch.place) (filter (λ touch. is_about wanted touch.second) all)

abbrev pub touched_by : Shape → List Record → Option Record → Option ℕ
touched_by shape before None = None
touched_by shape before (Some r) = touched shape before r.log r.event

-- the second-level block that the record of a number of the bank touches
abbrev pub touched_at : Shape → List Record → ℕ → ℕ → Option ℕ
touched_at shape rs bank number =
    touched_by shape (all_before [] rs (places_of_numbers bank rs number))
    (record_at rs (place_of_number bank rs number))

-- The record of a number of the bank, and the last of those with lower numbers that touch its second-level block.
pub record IsHistoryInBank (shape : Shape) (rs : List Record) (bank number most : ℕ) (history : History) : Type 0 where
  pub place : history.place ≡ place_of_number bank rs number
  pub before : history.before.items
      ≡ last most (about (touched_at shape rs bank number) (touches shape [] rs (places_of_numbers bank rs number)))

-- the places of all records of the bank, in the order of their numbers
abbrev pub places_of_bank : ℕ → List Record → List (Option ℕ)
places_of_bank bank rs = places_of_numbers bank rs (length (of_bank bank rs))

-- the last records of a request's bank that touch the second-level block that it asks for
abbrev pub last_at_request : Shape → List Record → ℕ → Record → List ℕ
last_at_request shape rs most request =
    last most (about (touched shape [] request.log request.event)
    (touches shape [] rs (places_of_bank request.bank rs)))
