-- What the parts of reading a map give.
use Rattle.std.specs.Prelude.{◌≡◌, ◌⊎◌, ℕ, List, Option, Some, None, Result, Ok, Err, map}
use Rattle.std.specs.Borrow.{Bor}
use Rattle.std.specs.Option.{option_or}
use Rattle.explain_lines.specs.declared.fault.MapCause.{MapCause}
use Rattle.explain_lines.specs.declared.fault.MapCause.TheVariants.{OutOfMemory}
use Rattle.explain_lines.specs.declared.line.Entry.{Entry}
use Rattle.explain_lines.specs.declared.times.Times.{Times}
use Rattle.explain_lines.specs.Stamp.{Stamp, said_by}
use Rattle.explain_lines.specs.Map.{time_if, refusal_if, time_of}

abbrev pub stamp : Entry → Stamp
stamp entry = record { log = entry.log; place = entry.place; time = entry.time.now }

-- It is this, or lacks this.
abbrev pub Gives : Result Entry MapCause → Result Stamp MapCause → Type 0
Gives (Ok entry) due = due ≡ Ok (stamp entry)
Gives (Err cause) due = due ≡ Err cause

abbrev pub Tells : Result (Option Entry) MapCause → Result (Option Stamp) MapCause → Type 0
Tells (Ok (Some entry)) due = due ≡ Ok (Some (stamp entry))
Tells (Ok None) due = due ≡ Ok None
Tells (Err cause) due = due ≡ Err cause

-- What a line does to a map: its time is added, or the line is refused.
abbrev pub Adds : Times → Times → List ℕ → Result (Unit {0}) MapCause → Type 0
Adds old new line (Ok _) =
    (refusal_if (time_of old) (said_by line) ≡ None)
    × ((log : ℕ) (place : ℕ) →
    time_of new log place ≡ option_or (time_of old log place) (time_if log place (said_by line)))
Adds old new line (Err cause) =
    (cause ≡ OutOfMemory) ⊎ (refusal_if (time_of old) (said_by line) ≡ Some cause)

-- the lines that are passed
abbrev pub texts : List (Bor (List ℕ)) → List (List ℕ)
texts lines = map (λ line. line.now) lines
