-- The lines of records.
use Rattle.std.specs.Prelude.{ℕ, List, [], ◌∷◌, ◌++◌, Option, Some, None, codes, slice_get}
use Rattle.std.specs.Fmt.{decimal}
use Rattle.std.specs.List.{flat_map}
use Rattle.lf_rules.specs.declared.event.Record.{Record}
use Rattle.text_print.specs.Text.{record_text}
use Rattle.explain_lines.specs.Marks.{Beside}

abbrev pub time_text : Option (List ℕ) → List ℕ
time_text (Some time) = codes ", time " ++ time
time_text None = []

-- the record, and in a comment the offset of its first byte and its time, where a map tells it
abbrev pub line_if : Option Record → Option Beside → List ℕ
line_if (Some item) (Some mark) =
    record_text item ++ codes " ; at " ++ decimal mark.offset ++ time_text mark.time ++ 10 ∷ []
line_if _ _ = []

-- the line of the record at a place, where there is one
abbrev pub line_at : List Record → List Beside → Option ℕ → List ℕ
line_at rs marks (Some place) = line_if (slice_get rs place) (slice_get marks place)
line_at rs marks None = []

-- a line for each place
abbrev pub lines_text : List Record → List Beside → List ℕ → List ℕ
lines_text rs marks places = flat_map (λ place. line_at rs marks (Some place)) places
