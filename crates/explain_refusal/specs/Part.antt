-- The parts of a trace, and how many bytes each has.
use Rattle.std.specs.Prelude.{ℕ, ◌+◌, ◌*◌, ◌==◌, ◌&&◌, ◌||◌, nat_lt, List, length, drop, codes, if◌then◌else◌}
use Rattle.lf_codec.specs.declared.header.Header.{Header}
use Rattle.lf_codec.specs.Checks.{byte_at}
use Rattle.lf_codec.specs.Steps.{kind_at, fixed_len, data_len}
use Rattle.explain_refusal.specs.declared.part.Part.{Part}
use Rattle.explain_refusal.specs.declared.part.Part.TheVariants as parts
use Rattle.explain_refusal.specs.declared.part.Step.{Step}
use Rattle.explain_refusal.specs.declared.part.Step.TheVariants as steps

-- how many bytes the memory records have
abbrev pub memory_len : Header → ℕ
memory_len h = h.memory_count * (4 + h.block)

-- the part that begins at an offset with these bytes
abbrev pub part_of : Header → ℕ → List ℕ → Part
part_of h offset bytes =
    if nat_lt offset 16 then parts.Header
    else if nat_lt offset (16 + memory_len h) then parts.Memory
    else if nat_lt 0 (length bytes) && byte_at 0 bytes == 0 then parts.End
    else parts.Event

abbrev pub part_name : Part → List ℕ
part_name parts.Header = codes "header"
part_name parts.Memory = codes "memory record"
part_name parts.Event = codes "record"
part_name parts.End = codes "end record"

-- the last step of an event record that these bytes come to; a kind that there is not has a head alone
abbrev pub step_of : Header → List ℕ → Step
step_of h bytes =
    if nat_lt (length bytes) 8 || nat_lt 20 (byte_at 0 bytes) then steps.Head
    else if nat_lt (length bytes) (8 + fixed_len h (kind_at (byte_at 0 bytes))) then steps.Fixed
    else steps.Data

-- how many bytes of the record there are up to the end of the step
abbrev pub step_len : Step → Header → List ℕ → ℕ
step_len steps.Head h bytes = 8
step_len steps.Fixed h bytes = 8 + fixed_len h (kind_at (byte_at 0 bytes))
step_len steps.Data h bytes =
    8 + fixed_len h (kind_at (byte_at 0 bytes)) + data_len h (kind_at (byte_at 0 bytes)) (drop 8 bytes)

abbrev pub step_name : Step → List ℕ
step_name steps.Head = codes "head of the record"
step_name steps.Fixed = codes "fixed part of the record"
step_name steps.Data = codes "data of the record"

-- how many bytes the part has, as far as its own fields say
abbrev pub len_of : Part → Header → List ℕ → ℕ
len_of parts.Header h bytes = 16
len_of parts.Memory h bytes = 4 + h.block
len_of parts.Event h bytes = step_len (step_of h bytes) h bytes
len_of parts.End h bytes = 8

-- where bytes end that are not all of their part
abbrev pub end_name : Part → Header → List ℕ → List ℕ
end_name parts.Event h bytes = step_name (step_of h bytes)
end_name part h bytes = part_name part
