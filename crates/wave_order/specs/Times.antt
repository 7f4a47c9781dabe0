-- The times of records, where a map tells them, and where the records are on the axis then.
use Rattle.std.specs.Prelude.{ℕ, ◌+◌, ◌*◌, ◌-◌, ◌^◌, min, max, List, [], ◌∷◌, Option, Some, None, unwrap_or}
use Rattle.std.specs.Prelude.{replicate, slice_get, slice_index, slice_set}
use Rattle.explain_lines.specs.declared.times.Times.{Times}
use Rattle.explain_lines.specs.Map.{time_of}
use Rattle.explain_lines.specs.Stamp.{word_of, number_of}
use Rattle.wave_order.specs.declared.clock.Clock.{Clock}

-- ---- how many records of each log came

-- before the first record
abbrev pub none_came : List ℕ
none_came = replicate 256 0

-- how many of this log did
abbrev pub came_of : List ℕ → ℕ → ℕ
came_of counts log = slice_index counts log

-- After one more of this log. The count ends at the greatest number of 64 bits.
abbrev pub one_more_of : List ℕ → ℕ → List ℕ
one_more_of counts log = slice_set counts log (min (came_of counts log + 1) (2 ^ 64 - 1))

-- ---- the number of a time

-- the number in front of a time
abbrev pub number_told : Option (List ℕ) → Option ℕ
number_told (Some time) = number_of (word_of time)
number_told None = None

-- The rank of the record at a place of a log. One without a number comes at once, and without times all are alike.
abbrev pub rank_of : Option Times → ℕ → ℕ → ℕ
rank_of (Some times) log place = unwrap_or (number_told (time_of times log place)) 0
rank_of None log place = 0

-- ---- the axis, in picoseconds: a unit of the map is a nanosecond

-- A record is at its time, but not before the time that is left to it. One without a number is there.
abbrev pub at_number : ℕ → Option ℕ → ℕ
at_number least (Some number) = max (min (number * 1000) (2 ^ 64 - 1)) least
at_number least None = least

abbrev pub at_time : Times → List ℕ → ℕ → ℕ → ℕ
at_time times counts least log = at_number least (number_told (time_of times log (came_of counts log)))

-- the time that is left to the record behind the one that is here
abbrev pub behind : ℕ → ℕ
behind at = min (at + 2) (2 ^ 64 - 1)

-- Where the records that come from these logs are, one after another, where so many of each log came. One whose time is
-- before that of the record before it is right behind that record.
abbrev pub axis_from : Times → List ℕ → ℕ → List ℕ → List ℕ
axis_from times counts least [] = []
axis_from times counts least (log ∷ logs) = at_time times counts least log
    ∷ axis_from times (one_more_of counts log) (behind (at_time times counts least log)) logs

abbrev pub axis : Times → List ℕ → List ℕ
axis times logs = axis_from times none_came 2 logs

-- where the record at this place of the wave is
abbrev pub at_of : Clock → ℕ → ℕ
at_of clock place = unwrap_or (slice_get clock.at.items place) 0
