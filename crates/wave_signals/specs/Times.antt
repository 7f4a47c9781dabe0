-- The time of each record, where a map tells it.
use Rattle.std.specs.Prelude.{ℕ, ◌/◌, ◌%◌, ◌==◌, ◌&&◌, not, nat_le, Bool, List, [], ◌∷◌, ◌++◌, codes}
use Rattle.std.specs.Prelude.{if◌then◌else◌, Option, Some, None, flat_map}
use Rattle.std.specs.Fmt.{decimal}
use Rattle.explain_lines.specs.Map.{time_of}
use Rattle.wave_order.specs.declared.clock.Clock.{Clock}
use Rattle.wave_signals.specs.declared.signal.Signal.TheVariants as signals
use Rattle.wave_signals.specs.Signals.{text_change}

-- ---- the text of a time

-- printable ASCII, but no blank and no backslash
abbrev pub is_plain : ℕ → Bool
is_plain b = nat_le 33 b && nat_le b 126 && not (b == 92)

-- a backslash and three octal digits
abbrev pub octal : ℕ → List ℕ
octal b = codes "\\" ++ (decimal (b / 64) ++ (decimal (b / 8 % 8) ++ decimal (b % 8)))

abbrev pub escaped_byte : ℕ → List ℕ
escaped_byte b = if is_plain b then b ∷ [] else octal b

abbrev pub escaped : List ℕ → List ℕ
escaped text = flat_map escaped_byte text

abbrev pub time_text : Option (List ℕ) → List ℕ
time_text (Some time) = escaped time
time_text None = []

-- The time of the record at a place of a log, from that record on. A record of which the map tells none has no text.
abbrev pub told_time : Option Clock → ℕ → ℕ → List ℕ
told_time (Some clock) log place = text_change (time_text (time_of clock.times log place)) signals.Time
told_time None log place = []
