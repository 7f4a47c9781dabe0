-- What a line of a map tells: the time of a record.
use Rattle.std.specs.Prelude.{ℕ, ◌^◌, Bool, true, false, ◌==◌, ◌&&◌, nat_lt, List, [], ◌∷◌}
use Rattle.std.specs.Prelude.{if◌then◌else◌, Option, Some, None, Result, Ok, Err}
use Rattle.std.specs.List.{before_first, after_first}
use Rattle.std.specs.Str.{all_ascii_digits}
use Rattle.std.specs.Str.Parse.{digits_value}
use Rattle.explain_lines.specs.declared.fault.MapCause.{MapCause}
use Rattle.explain_lines.specs.declared.fault.MapCause.TheVariants as causes

-- the time of the record at a place in a log
pub record Stamp : Type 0 where
  pub log : ℕ
  pub place : ℕ
  pub time : List ℕ

-- ---- words

abbrev pub is_blank : ℕ → Bool
is_blank b = b == 32

-- the word in front, up to the first blank
abbrev pub word_of : List ℕ → List ℕ
word_of text = before_first is_blank text

-- the text behind that blank
abbrev pub after_word : List ℕ → List ℕ
after_word text = after_first is_blank text

-- ---- numbers

-- one decimal digit or more, and nothing else
abbrev pub is_numeral : List ℕ → Bool
is_numeral [] = false
is_numeral (c ∷ cs) = all_ascii_digits (c ∷ cs)

-- the number of these digits, below 2^64
abbrev pub number_of : List ℕ → Option ℕ
number_of text = if is_numeral text && nat_lt (digits_value 10 text) (2 ^ 64) then Some (digits_value 10 text) else None

-- ---- logs

abbrev pub number_below : ℕ → Option ℕ → Option ℕ
number_below bound (Some n) = if nat_lt n bound then Some n else None
number_below bound None = None

-- the log of this number, below 256
abbrev pub log_of : List ℕ → Option ℕ
log_of digits = number_below 256 (number_of digits)

-- ---- a line: the number of a log, the place of the record in that log, and its time

abbrev pub with_time : ℕ → ℕ → List ℕ → Result Stamp MapCause
with_time log place [] = Err causes.Time
with_time log place (c ∷ time) = Ok (record { log = log; place = place; time = c ∷ time })

abbrev pub with_place : ℕ → Option ℕ → List ℕ → Result Stamp MapCause
with_place log (Some place) time = with_time log place time
with_place log None time = Err causes.Place

abbrev pub with_log : Option ℕ → List ℕ → Result Stamp MapCause
with_log (Some log) rest = with_place log (number_of (word_of rest)) (after_word rest)
with_log None rest = Err causes.Log

-- what a line tells that is neither empty nor a comment, or what it lacks
abbrev pub stamp_of : List ℕ → Result Stamp MapCause
stamp_of line = with_log (log_of (word_of line)) (after_word line)

-- The line is empty or a comment, which begins with #.
abbrev pub is_silent : List ℕ → Bool
is_silent [] = true
is_silent (c ∷ line) = c == 35

abbrev pub told : Result Stamp MapCause → Result (Option Stamp) MapCause
told (Ok stamp) = Ok (Some stamp)
told (Err cause) = Err cause

-- what a line tells, where it tells anything
abbrev pub said_by : List ℕ → Result (Option Stamp) MapCause
said_by line = if is_silent line then Ok None else told (stamp_of line)
