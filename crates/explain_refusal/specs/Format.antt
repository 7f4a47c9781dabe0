-- The text of a fault of a trace's bytes.
use Rattle.std.specs.Prelude.{ℕ, ◌+◌, ◌-◌, List, [], ◌∷◌, ◌++◌, length, take, drop, codes}
use Rattle.std.specs.Fmt.{decimal}
use Rattle.lf_codec.specs.declared.header.Header.{Header}
use Rattle.lf_codec.specs.declared.fault.CodecCause.{CodecCause}
use Rattle.lf_codec.specs.Checks.{u32_at}
use Rattle.lf_codec.specs.Steps.{header_at}
use Rattle.explain_refusal.specs.declared.allowed.Allowed.{Allowed}
use Rattle.explain_refusal.specs.declared.field.Field.{Field}
use Rattle.explain_refusal.specs.declared.finding.Finding.{Finding}
use Rattle.explain_refusal.specs.declared.finding.Finding.TheVariants as found
use Rattle.explain_refusal.specs.declared.part.Part.{Part}
use Rattle.explain_refusal.specs.Allowed.{allowed_text}
use Rattle.explain_refusal.specs.Bytes.{listed_bytes}
use Rattle.explain_refusal.specs.Field.{field_text, value_text}
use Rattle.explain_refusal.specs.Finding.{finding_of}
use Rattle.explain_refusal.specs.Part.{part_of, part_name, len_of, end_name}

-- the block of the memory record before the one at an offset
abbrev pub block_before : Header → List ℕ → ℕ → ℕ
block_before h bytes offset = u32_at 0 (drop (offset - (4 + h.block)) bytes)

abbrev pub part_line : List ℕ → ℕ → List ℕ → List ℕ
part_line name offset bytes =
    codes "the " ++ name ++ codes " at " ++ decimal offset ++ codes " has these bytes:" ++ listed_bytes bytes
    ++ 10 ∷ []

-- the bytes that a part has
abbrev pub has_text : Part → Header → ℕ → List ℕ → List ℕ
has_text part h offset bytes = part_line (part_name part) offset (take (len_of part h bytes) bytes)

-- a field, what stands in it, and what it may have
abbrev pub field_line : Field → Allowed → List ℕ → List ℕ
field_line field allowed bytes =
    codes "  " ++ field_text field ++ codes ":" ++ value_text field bytes ++ codes "; " ++ allowed_text allowed
    ++ 10 ∷ []

-- how many bytes of a part are there, how many are due, and within what they end
abbrev pub lengths_line : ℕ → ℕ → List ℕ → List ℕ
lengths_line there due name =
    codes "  bytes there: " ++ decimal there ++ codes ", bytes due: " ++ decimal due
    ++ codes "; the trace ends within the " ++ name ++ 10 ∷ []

-- the bytes behind the end record
abbrev pub behind_text : ℕ → List ℕ → List ℕ
behind_text offset bytes =
    codes "behind the end record, from " ++ decimal offset ++ codes " on, are these bytes:" ++ listed_bytes bytes ++ 10
    ∷ codes "  bytes too many: " ++ decimal (length bytes) ++ 10 ∷ []

abbrev pub found_text : Finding → Part → Header → ℕ → List ℕ → List ℕ
found_text (found.Field field allowed) part h offset bytes =
    has_text part h offset bytes ++ field_line field allowed bytes
found_text found.Ends part h offset bytes =
    has_text part h offset bytes ++ lengths_line (length bytes) (len_of part h bytes) (end_name part h bytes)
found_text found.GoesOn part h offset bytes = behind_text offset bytes
found_text found.Memory part h offset bytes =
    codes "memory ran out at offset " ++ decimal offset ++ codes "; no check had failed" ++ 10 ∷ []

-- what is found at the part that begins at an offset
abbrev pub found_at : Header → List ℕ → ℕ → CodecCause → ℕ → ℕ → List ℕ
found_at h bytes offset cause block count =
    let part = part_of h offset bytes in
    found_text (finding_of cause part h bytes block count) part h offset bytes

-- why these bytes, with so many event records before the fault, are no trace
abbrev pub refusal_text : List ℕ → CodecCause → ℕ → ℕ → List ℕ
refusal_text bytes cause offset count =
    let h = header_at bytes in
    found_at h (drop offset bytes) offset cause (block_before h bytes offset) count
