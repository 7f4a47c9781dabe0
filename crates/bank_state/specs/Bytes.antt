-- The bytes of a memory and of a request.
use Rattle.std.specs.Prelude.{◌≡◌, ℕ, ◌+◌, ◌-◌, ◌==◌, ◌<◌, ◌≤◌, true, ◌&&◌, nat_eq, nat_le, nat_lt, List, [], length}
use Rattle.std.specs.Prelude.{false, ◌++◌, map, take, drop, Option, bytes_eq, slice_index, unwrap_or}
use Rattle.std.specs.Prelude.{if◌then◌else◌}
use Rattle.std.specs.Option.{option_map_or}
use Rattle.std.specs.List.{filter, range_with_len}
use Rattle.std.specs.Int.{to_le_bytes, w64}
use Rattle.std.specs.Map.{lookup}
use Rattle.lf_rules.specs.declared.shape.Shape.{Shape}
use Rattle.lf_rules.specs.Address.{FlatMemory, bank_of, is_under}
use Rattle.lf_rules.specs.State.{Request}
use Rattle.lf_rules.specs.Table.{is_store}

-- the memory that has these bytes at these blocks, and zeros elsewhere
abbrev pub flat_of : List (ℕ × List ℕ) → FlatMemory
flat_of blocks block place = slice_index (unwrap_or (lookup (nat_eq block) blocks) []) place

-- the memory on the blocks of one bank, and zeros elsewhere
abbrev pub bank_part : Shape → ℕ → FlatMemory → FlatMemory
bank_part shape bank memory block place = if bank_of shape block == bank then memory block place else 0

-- the bytes with new ones from a place on
abbrev pub put : (ℕ → ℕ) → ℕ → List ℕ → ℕ → ℕ
put bytes offset new place = if nat_le offset place && nat_lt place (offset + length new) then slice_index new
    (place - offset) else bytes place

-- a request that lies within a block, whose store writes as many bytes as it says
pub record IsWellSized (request : Request) : Type 0 where
  pub within : request.offset + request.size ≤ 64
  pub some : 0 < request.size
  pub small : request.size ≤ 8
  pub carried : is_store request ≡ true → length request.bytes ≡ request.size

-- the first so many bytes whose bit is set, rising
abbrev pub bytes_under : (ℕ → ℕ) → ℕ → ℕ → List ℕ
bytes_under bytes size mask = map bytes (filter (is_under mask) (range_with_len 0 size))

-- the place at which these bytes end in the list, where they stand there from a place on
abbrev pub EndOf : List ℕ → List ℕ → ℕ → Option ℕ → Type 0
EndOf xs bytes from end = (more : List ℕ) → bytes_eq (drop from bytes) (xs ++ more)
    ≡ option_map_or (λ at. bytes_eq (drop at bytes) more) end false

-- these are the first bytes of the number, the lowest first
abbrev pub IsNumberOf : List ℕ → ℕ → Type 0
IsNumberOf bytes number = take (length bytes) (to_le_bytes w64 number) ≡ bytes
