-- The text of a trace: a line for each of its parts, with the offset at which the part begins.
use Rattle.std.specs.Prelude.{ℕ, ◌+◌, List, [], ◌∷◌, ◌++◌, length, map, sum_by, codes, Option, Some, None}
use Rattle.std.specs.Fmt.{decimal}
use Rattle.lf_rules.specs.Fits.{Bytes}
use Rattle.lf_rules.specs.declared.event.Record.{Record}
use Rattle.lf_codec.specs.declared.header.Header.{Header}
use Rattle.lf_codec.specs.declared.fault.CodecCause.{CodecCause}
use Rattle.lf_codec.specs.declared.fault.CodecCause.TheVariants.{Trailing}
use Rattle.lf_codec.specs.declared.fault.CodecFault.{CodecFault}
use Rattle.lf_codec.specs.Layout.{header_bytes, memory_bytes, record_bytes}
use Rattle.lf_codec.specs.Reading.{reading_of, header_of, trace_fault}
use Rattle.lf_codec.specs.Text.{fault_text}
use Rattle.text_print.specs.Text.{header_text, memory_text, record_text}

-- a part of a trace that has a line of its own
pub record Part : Type 0 where
  pub text : List ℕ
  pub bytes : List ℕ

-- the line of a text, with the offset of its first byte in a comment
abbrev pub placed_line : List ℕ → ℕ → List ℕ
placed_line text offset = (text ++ codes " ; at " ++ decimal offset) ++ 10 ∷ []

-- the lines of parts that stand one behind another, the first of which begins at this offset
abbrev pub lines_from : ℕ → List Part → List ℕ
lines_from offset [] = []
lines_from offset (part ∷ parts) = placed_line part.text offset ++ lines_from (offset + length part.bytes) parts

-- of how many bytes they are
abbrev pub len_of : List Part → ℕ
len_of parts = sum_by (λ part. length part.bytes) parts

abbrev pub header_part : Header → Part
header_part h = record { text = header_text h; bytes = header_bytes h }

abbrev pub memory_part : ℕ × Bytes → Part
memory_part m = record { text = memory_text m.0 m.1.items; bytes = memory_bytes m }

abbrev pub record_part : Record → Part
record_part r = record { text = record_text r; bytes = record_bytes r }

abbrev pub header_parts : Option Header → List Part
header_parts None = []
header_parts (Some h) = header_part h ∷ []

abbrev pub parts_in : Option Header → List (ℕ × Bytes) → List Record → List Part
parts_in h memory records = header_parts h ++ (map memory_part memory ++ map record_part records)

-- the parts before the end record that the format reads from these bytes
abbrev pub parts_of : List ℕ → List Part
parts_of bytes = parts_in (header_of bytes) (reading_of bytes).memory (reading_of bytes).records

-- their lines
abbrev pub lines_of : List ℕ → List ℕ
lines_of bytes = lines_from 0 (parts_of bytes)

-- the line of the end record, before which so many event records stand
abbrev pub end_line : ℕ → ℕ → List ℕ
end_line count offset = placed_line (codes "end count=" ++ decimal count) offset

abbrev pub refusal_line : CodecFault → List ℕ
refusal_line fault = codes "refused format " ++ fault_text fault ++ 10 ∷ []

-- a trace with bytes behind it has its end record; before any other fault there is none
abbrev pub end_before : CodecCause → ℕ → ℕ → List ℕ
end_before Trailing count offset = end_line count offset
end_before cause count offset = []

-- what stands behind the lines: the end record, and why the bytes are no trace
abbrev pub closing : Option CodecFault → ℕ → ℕ → List ℕ
closing None count offset = end_line count offset
closing (Some fault) count offset = end_before fault.cause count offset ++ refusal_line fault

abbrev pub closing_of : List ℕ → List ℕ
closing_of bytes = closing (trace_fault bytes) (length (reading_of bytes).records) (len_of (parts_of bytes))

-- the text of these bytes
abbrev pub text_of : List ℕ → List ℕ
text_of bytes = lines_of bytes ++ closing_of bytes
