-- What is told of a refused text: the fault, and below it the line and a mark under the place.
use Rattle.std.specs.Prelude.{ℕ, ◌-◌, Bool, ◌==◌, ◌||◌, ◌&&◌, nat_le, List, [], ◌∷◌, ◌++◌, take, drop, min, codes}
use Rattle.std.specs.Prelude.{if◌then◌else◌}
use Rattle.std.specs.Fmt.{decimal}
use Rattle.std.specs.List.{flat_map, slice_split, prefix_len}
use Rattle.lf_codec.specs.Text.{cause_text}
use Rattle.text_parse.specs.Text.{expected_text}
use Rattle.text_assemble.specs.declared.fault.AssembleCause.{AssembleCause}
use Rattle.text_assemble.specs.declared.fault.AssembleCause.TheVariants as causes
use Rattle.text_assemble.specs.declared.fault.AssembleFault.{AssembleFault}
use Rattle.text_assemble.specs.Assembly.{is_newline}
use Rattle.text_assemble.specs.Text.{part_text, fault_text}

-- ---- the place

-- the line of this number, from 1 on
abbrev pub line_in : List (List ℕ) → ℕ → List ℕ
line_in [] number = []
line_in (line ∷ lines) number = if nat_le number 1 then line else line_in lines (number - 1)

abbrev pub is_margin : ℕ → Bool
is_margin b = b == 32 || b == 9

-- how many bytes of the line stand before the place: where no column is told, it is the first word
abbrev pub place_of : AssembleCause → List ℕ → ℕ
place_of (causes.Text fault) line = fault.column - 1
place_of cause line = prefix_len is_margin line

-- ---- what is shown

-- 160 bytes of the line, at most 120 of them before the place
abbrev pub window : ℕ → List ℕ → List ℕ
window place line = take 160 (drop (place - 120) line)

-- those before the place
abbrev pub before : ℕ → List ℕ → List ℕ
before place line = take (min place 120) (window place line)

-- a printable byte of ASCII as it is, a tab as a blank, and any other byte as a question mark
abbrev pub shown : ℕ → List ℕ
shown b = if b == 9 then codes " " else if nat_le 32 b && nat_le b 126 then b ∷ [] else codes "?"

abbrev pub blank : ℕ → List ℕ
blank b = codes " "

abbrev pub label_text : AssembleCause → List ℕ
label_text (causes.Text fault) = codes "expected " ++ expected_text fault.expected
label_text (causes.Part part) = codes "expected " ++ part_text part
label_text (causes.Bytes len) = codes "expected " ++ decimal len ++ codes " bytes"
label_text (causes.Masks count) = codes "expected " ++ decimal count ++ codes " masks"
label_text causes.Factor = codes "expected factor=1 before version 3"
label_text (causes.Format cause) = cause_text cause
label_text causes.Memory = []

-- the line with its number, and below it the mark
abbrev pub marked_line : ℕ → AssembleCause → List ℕ → ℕ → List ℕ
marked_line number cause line place =
    decimal number ++ codes " | " ++ flat_map shown (window place line) ++ 10 ∷ [] ++ flat_map blank (decimal number)
    ++ codes " | "
    ++ flat_map blank (before place line) ++ codes "^ " ++ label_text cause

abbrev pub excerpt_text : ℕ → AssembleCause → List ℕ → List ℕ
excerpt_text number cause line = marked_line number cause line (place_of cause line)

abbrev pub told_at : ℕ → AssembleCause → List ℕ → List ℕ
told_at number causes.Memory text = []
told_at number cause text = 10 ∷ excerpt_text number cause (line_in (slice_split is_newline text) number)

-- what is told of the fault of this text
abbrev pub refusal_text : AssembleFault → List ℕ → List ℕ
refusal_text fault text = fault_text fault ++ told_at fault.line fault.cause text
