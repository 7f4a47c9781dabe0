-- What stands beside the line of a record.
use Rattle.std.specs.Prelude.{ℕ, ◌+◌, ◌==◌, List, [], ◌∷◌, ◌++◌, map, count_by, Option, Some, None}
use Rattle.std.specs.Prelude.{string_bytes}
use Rattle.std.specs.Borrow.{Bor}
use Rattle.std.specs.Option.{option_map}
use Rattle.lf_rules.specs.declared.event.Record.{Record}
use Rattle.lf_codec.specs.Lengths.{bytes_len}
use Rattle.explain_lines.specs.declared.times.Times.{Times}
use Rattle.explain_lines.specs.Map.{time_of}
use Rattle.explain_lines.specs.declared.mark.Mark.{Mark}
use Rattle.explain_lines.specs.declared.mark.Marks.{Marks}

-- the offset of a record's first byte, and its time where a map tells it
pub record Beside : Type 0 where
  pub offset : ℕ
  pub time : Option (List ℕ)

-- ---- the marks that are kept

-- what a mark says
abbrev pub beside : Mark → Beside
beside mark = record { offset = mark.offset; time = option_map (λ time. time.now) mark.time }

-- the times that are kept
abbrev pub texts : Marks → List (Option (List ℕ))
texts marks = map (option_map string_bytes) marks.times.items

-- each of these offsets with the time at its place, and behind the last time with none
abbrev pub besides_in : List ℕ → List (Option (List ℕ)) → List Beside
besides_in [] times = []
besides_in (offset ∷ offsets) [] = record { offset = offset; time = None } ∷ besides_in offsets []
besides_in (offset ∷ offsets) (time ∷ times) = record { offset = offset; time = time } ∷ besides_in offsets times

-- what stands beside the record of each place
abbrev pub besides : Marks → List Beside
besides marks = besides_in marks.offsets.items (texts marks)

-- ---- the marks of a trace

-- how many of these records stand in the log
abbrev pub count_in : List Record → ℕ → ℕ
count_in rs log = count_by (λ r. r.log == log) rs

-- What stands beside a record that comes behind these, of which the first begins at `start`: the offset of its first
-- byte, and the time that is told of its log and of its place there.
abbrev pub beside_of : (ℕ → ℕ → Option (List ℕ)) → ℕ → List Record → Record → Beside
beside_of told start before r =
    record { offset = start + bytes_len before; time = told r.log (count_in before r.log) }

-- what stands beside each of the records that come behind `before`
abbrev pub besides_from : (ℕ → ℕ → Option (List ℕ)) → ℕ → List Record → List Record → List Beside
besides_from told start before [] = []
besides_from told start before (r ∷ rs) =
    beside_of told start before r ∷ besides_from told start (before ++ r ∷ []) rs

-- the same for the records of a trace of which the first begins at `start`
abbrev pub besides_of : (ℕ → ℕ → Option (List ℕ)) → ℕ → List Record → List Beside
besides_of told start rs = besides_from told start [] rs

-- where there is no map
abbrev pub untold : ℕ → ℕ → Option (List ℕ)
untold log place = None

-- the times of a map, where there is one
abbrev pub told_by : Option (Bor Times) → ℕ → ℕ → Option (List ℕ)
told_by (Some times) = time_of times.now
told_by None = untold

-- ---- its parts

-- the offset of each record
abbrev pub offsets_of : ℕ → List Record → List ℕ
offsets_of start rs = map (λ beside. beside.offset) (besides_of untold start rs)

-- the time that is told of each record
abbrev pub times_of : (ℕ → ℕ → Option (List ℕ)) → List Record → List (Option (List ℕ))
times_of told rs = map (λ beside. beside.time) (besides_of told 0 rs)
