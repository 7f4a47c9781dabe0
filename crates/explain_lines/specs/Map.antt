-- What the lines of a map tell together, and the first line that is refused.
use Rattle.std.specs.Prelude.{◌≡◌, ℕ, ◌+◌, ◌==◌, ◌&&◌, List, [], ◌∷◌, ◌++◌, length}
use Rattle.std.specs.Prelude.{if◌then◌else◌, Option, Some, None, is_some, Result, Ok, Err, String, string_bytes}
use Rattle.std.specs.BTreeMap.{BTreeMap, get}
use Rattle.std.specs.Global.{Global}
use Rattle.std.specs.Option.{option_map, option_or}
use Rattle.std.specs.Ordering.{nat_cmp, ordering_then}
use Rattle.std.specs.declared.cmp.Ordering.{Ordering}
use Rattle.std.specs.Str.Lines.{lines}
use Rattle.explain_lines.specs.declared.fault.MapCause.{MapCause}
use Rattle.explain_lines.specs.declared.fault.MapCause.TheVariants as causes
use Rattle.explain_lines.specs.declared.fault.MapFault.{MapFault}
use Rattle.explain_lines.specs.declared.times.Times.{Times}
use Rattle.explain_lines.specs.Stamp.{Stamp, said_by}

-- ---- times

-- the time of the record at this place of the log, where the line tells it
abbrev pub time_if : ℕ → ℕ → Result (Option Stamp) MapCause → Option (List ℕ)
time_if log place (Ok (Some stamp)) = if stamp.log == log && stamp.place == place then Some stamp.time else None
time_if log place (Ok None) = None
time_if log place (Err cause) = None

-- the time of the record at this place of the log, as the first line that names it tells
abbrev pub time_in : List (List ℕ) → ℕ → ℕ → Option (List ℕ)
time_in [] log place = None
time_in (line ∷ lines) log place = option_or (time_if log place (said_by line)) (time_in lines log place)

-- ---- faults

abbrev pub refusal_if : (ℕ → ℕ → Option (List ℕ)) → Result (Option Stamp) MapCause → Option MapCause
refusal_if known (Ok (Some stamp)) = if is_some (known stamp.log stamp.place) then Some causes.Twice else None
refusal_if known (Ok None) = None
refusal_if known (Err cause) = Some cause

-- why a line is refused behind these: it is not of the form, or one of these names its record too
abbrev pub refusal : List (List ℕ) → List ℕ → Option MapCause
refusal before line = refusal_if (time_in before) (said_by line)

abbrev pub fault_or : ℕ → Option MapCause → Option MapFault → Option MapFault
fault_or number (Some cause) later = Some (record { line = number; cause = cause })
fault_or number None later = later

-- the first line that is refused, of those that stand behind others
abbrev pub fault_from : List (List ℕ) → List (List ℕ) → Option MapFault
fault_from before [] = None
fault_from before (line ∷ lines) =
    fault_or (length before + 1) (refusal before line) (fault_from (before ++ line ∷ []) lines)

-- the first line of a text that is refused
abbrev pub map_fault : List ℕ → Option MapFault
map_fault text = fault_from [] (lines text)

-- ---- what a map has

-- by the number of the log, and then by the place
abbrev pub place_cmp : ℕ × ℕ → ℕ × ℕ → Ordering
place_cmp a b = ordering_then (nat_cmp a.0 b.0) (nat_cmp a.1 b.1)

abbrev pub time_at : BTreeMap (ℕ × ℕ) (String Global) → ℕ → ℕ → Option (List ℕ)
time_at times number place = option_map string_bytes (get place_cmp times (number, place))

-- the time that a map has for the record at a place of a log
abbrev pub time_of : Times → ℕ → ℕ → Option (List ℕ)
time_of times log place = time_at times.entries log place

-- The map is that of the text.
pub record IsMapOf (text : List ℕ) (times : Times) : Type 0 where
  pub formed : map_fault text ≡ None
  pub tells : (log : ℕ) (place : ℕ) → time_of times log place ≡ time_in (lines text) log place
