-- What a draft of a trace keeps, and what one more line does to it.
use Rattle.std.specs.Prelude.{◌≡◌, ◌⊎◌, ℕ, ◌+◌, List, [], length, Option, Some, None, Result, Ok, Err}
use Rattle.std.specs.Borrow.{Bor}
use Rattle.std.specs.List.{slice_split}
use Rattle.lf_rules.specs.Fits.{Bytes}
use Rattle.lf_rules.specs.declared.event.Record.{Record}
use Rattle.lf_codec.specs.declared.fault.CodecFault.{CodecFault}
use Rattle.lf_codec.specs.Reading.{Reading, fault_so_far, trace_fault}
use Rattle.lf_codec.specs.Reader.{HasRead}
use Rattle.text_assemble.specs.declared.draft.Draft.{Draft}
use Rattle.text_assemble.specs.declared.fault.AssembleFault.{AssembleFault}
use Rattle.text_assemble.specs.declared.fault.AssembleCause.{AssembleCause}
use Rattle.text_assemble.specs.declared.fault.AssembleCause.TheVariants as causes
use Rattle.text_assemble.specs.Assembly.{added, finished, assembled, ended, is_newline}

-- The reader was fed these bytes, and no fault stands in them yet.
pub record IsFine (bytes : List ℕ) (r : Reading) : Type 0 where
  pub memory : List (ℕ × Bytes)
  pub records : List Record
  pub read : HasRead r bytes memory records
  pub fine : fault_so_far bytes ≡ None

abbrev pub IsDraft : Draft → Type 0
IsDraft d = IsFine d.bytes.items d.reader

-- The format forbids these bytes for this cause.
pub record IsForbidden (bytes : List ℕ) (cause : AssembleCause) : Type 0 where
  pub fault : CodecFault
  pub there : fault_so_far bytes ≡ Some fault
  pub is : cause ≡ causes.Format fault.cause

-- What one more piece does to a reader that was fed these bytes.
abbrev pub Judges : Reading → List ℕ → Result (Unit {0}) AssembleCause → Type 0
Judges new bytes (Ok _) = IsFine bytes new
Judges new bytes (Err cause) = (cause ≡ causes.Memory) ⊎ IsForbidden bytes cause

-- What one more line does to a draft.
abbrev pub Adds : Draft → Draft → List ℕ → Result (Unit {0}) AssembleCause → Type 0
Adds old new text (Ok _) = (added old.due old.defaults old.bytes.items text
    ≡ Ok (new.due, new.defaults, new.bytes.items)) × IsDraft new
Adds old new text (Err cause) = (cause ≡ causes.Memory) ⊎ (added old.due old.defaults old.bytes.items text ≡ Err cause)

-- What the end record does to a draft, where no line said it.
abbrev pub Closes : Draft → Draft → Result (Unit {0}) AssembleCause → Type 0
Closes old new (Ok _) = (new.bytes.items ≡ finished old.due old.bytes.items) × IsDraft new
Closes old new (Err cause) = (cause ≡ causes.Memory) ⊎ IsForbidden (finished old.due old.bytes.items) cause

-- what a draft gives behind so many lines
abbrev pub whole : ℕ → Draft → Result (List ℕ) AssembleFault
whole number d = let bytes = finished d.due d.bytes.items in ended number bytes (trace_fault bytes)

-- the lines of what is left of a text, and how much that is
abbrev pub lines_in : Option (Bor (List ℕ)) → List (List ℕ)
lines_in None = []
lines_in (Some text) = slice_split is_newline text.now

abbrev pub left_in : Option (Bor (List ℕ)) → ℕ
left_in None = 0
left_in (Some text) = length text.now + 1

-- What the lines of a text do to a draft.
abbrev pub Reads : Draft → Draft → List (List ℕ) → Result ℕ AssembleFault → Type 0
Reads old new texts (Ok number) =
    (assembled old.due old.defaults old.bytes.items 0 texts ≡ whole number new) × IsDraft new
Reads old new texts (Err fault) = (fault.cause ≡ causes.Memory)
    ⊎ (assembled old.due old.defaults old.bytes.items 0 texts ≡ Err fault)
