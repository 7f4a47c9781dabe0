-- What a dump reads, answers and writes.
use Rattle.std.specs.Prelude.{◌≡◌, ◌≢◌, ◌⊎◌, ◌↔◌, ℕ, ◌<◌, ◌≤◌, Bool, List, [], ◌∷◌, ◌++◌, length, take, codes, Option}
use Rattle.std.specs.Prelude.{Some, Result, Ok, Err}
use Rattle.std.specs.Prelude.{IfOk, IfErr, IsErrOf, IsTrue}
use Rattle.lf_codec.specs.declared.fault.CodecFault.{CodecFault}
use Rattle.lf_codec.specs.declared.fault.CodecCause.TheVariants.{Truncated}
use Rattle.lf_codec.specs.Laws.{AreBytes}
use Rattle.lf_codec.specs.Reader.{HasRead}
use Rattle.lf_codec.specs.Reading.{reading_of, trace_fault}
use Rattle.run_stream.specs.Account.{Account, WentOut}
use Rattle.run_stream.specs.Gathered.{IsPartRead, IsAllRead, GoesOn, GoesOnToLast}
use Rattle.text_dump.specs.declared.fault.DumpFault.{DumpFault}
use Rattle.text_dump.specs.declared.fault.DumpFault.TheVariants.{Read, Turns, Memory, Write}
use Rattle.text_dump.specs.declared.printer.Printer.{Printer}
use Rattle.text_dump.specs.Lines.{parts_of, len_of, lines_of, closing_of}

-- the most bytes that one read asks for
abbrev pub piece_len : ℕ
piece_len = 65536

-- A fault stands in the bytes, whatever comes after them.
abbrev pub HasFault : List ℕ → Type 0
HasFault bytes = (fault : CodecFault) × (trace_fault bytes ≡ Some fault) × (fault.cause ≢ Truncated)

-- Nothing is.
abbrev pub IsNone : List ℕ → Type 0
IsNone bytes = ⊥

-- The reader was fed these bytes, and all that stands in them was taken from it and counted.
pub record IsShown (bytes : List ℕ) (printer : Printer) : Type 0 where
  pub read : HasRead printer.reader bytes (reading_of bytes).memory (reading_of bytes).records
  pub no_memory : printer.reader.memory ≡ []
  pub no_records : printer.reader.records ≡ []
  pub offset : printer.offset ≡ len_of (parts_of bytes)
  pub count : printer.records ≡ length (reading_of bytes).records

-- ---- what was read and what went out, from readers and writers at two moments
-- These are said of the lines that bytes have: all of them, or those that a choice takes.

-- The reads answered these bytes, in which no fault stands, and none said that the bytes end. All their lines went out,
-- and then this line.
pub record IsToldSoFar (lines : List ℕ → List ℕ) (old new writer writer' : Account) (line : List ℕ) : Type 0 where
  pub bytes : List ℕ
  pub part : IsPartRead HasFault old new bytes
  pub unended : GoesOn old.pieces new.pieces
  pub out : WentOut writer writer' (lines bytes ++ line)

-- The lines of a front of the bytes that the reads answered went out, and then this line.
pub record IsToldInPart (lines : List ℕ → List ℕ) (old new writer writer' : Account) (line : List ℕ) : Type 0 where
  pub bytes : List ℕ
  pub more : List ℕ
  pub part : IsPartRead IsNone old new (bytes ++ more)
  pub out : WentOut writer writer' (lines bytes ++ line)

-- All lines of the bytes that the reads answered went out, but for those of at most so many bytes at the end, and then
-- this line.
pub record IsToldBut (missing : ℕ) (lines : List ℕ → List ℕ) (old new writer writer' : Account) (line : List ℕ) : Type
    0 where
  pub bytes : List ℕ
  pub more : List ℕ
  pub part : IsPartRead IsNone old new (bytes ++ more)
  pub few : length more ≤ missing
  pub out : WentOut writer writer' (lines bytes ++ line)

-- ... all lines of a dump, but for those of at most one read
abbrev pub IsToldButForOne : Account → Account → Account → Account → List ℕ → Type 0
IsToldButForOne = IsToldBut piece_len lines_of

-- ---- the lines behind a text that stops

abbrev pub not_read_line : List ℕ
not_read_line = codes "refused read trace" ++ 10 ∷ []

abbrev pub no_memory_line : List ℕ
no_memory_line = codes "refused memory" ++ 10 ∷ []

abbrev pub stop_line : DumpFault → List ℕ
stop_line Read = not_read_line
stop_line Turns = not_read_line
stop_line Memory = no_memory_line
stop_line Write = []

-- The line stands behind all lines of these bytes.
abbrev pub Closes : List ℕ → List ℕ → Type 0
Closes line bytes = (line ≡ closing_of bytes) ⊎ ((line ≡ not_read_line) ⊎ (line ≡ no_memory_line))

-- The lines of a front of the bytes that the reads answered went out, and then such a line, as far as the writer
-- took them.
pub record IsCutOff (lines : List ℕ → List ℕ) (old new writer writer' : Account) : Type 0 where
  pub bytes : List ℕ
  pub more : List ℕ
  pub part : IsPartRead IsNone old new (bytes ++ more)
  pub line : List ℕ
  pub closes : Closes line bytes
  pub count : ℕ
  pub out : WentOut writer writer' (take count (lines bytes ++ line))

-- The whole text went out of all bytes that were to be read, which have this fault.
pub record IsToldWhole (lines : List ℕ → List ℕ) (old new writer writer' : Account) (fault : Option CodecFault) : Type
    0 where
  pub bytes : List ℕ
  pub are_bytes : AreBytes bytes
  pub all : IsAllRead HasFault piece_len old new bytes
  pub once : GoesOnToLast old.pieces new.pieces
  pub is_fault : fault ≡ trace_fault bytes
  pub out : WentOut writer writer' (lines bytes ++ closing_of bytes)

-- What went out where a dump stopped, with its last line.
abbrev pub IsStopped : (List ℕ → List ℕ) → Account → Account → Account → Account → List ℕ → DumpFault → Type 0
IsStopped lines old new writer writer' line Read = IsToldSoFar lines old new writer writer' line
IsStopped lines old new writer writer' line Turns = IsToldSoFar lines old new writer writer' line
IsStopped lines old new writer writer' line Memory = IsToldInPart lines old new writer writer' line
IsStopped lines old new writer writer' line Write = IsCutOff lines old new writer writer'

-- ---- a dump

-- A dump of these lines of the bytes within so many reads, whose last line where it stops is this one of the fault.
pub record IsDumpedBy (lines : List ℕ → List ℕ) (old new writer writer' : Account) (turns : ℕ)
    (last : DumpFault → List ℕ)
    (answer : Result (Option CodecFault) DumpFault) : Type 0 where
  pub reads : new.calls ≤ turns
  pub whole : IfOk answer (IsToldWhole lines old new writer writer')
  pub stopped : IfErr answer (λ fault. IsStopped lines old new writer writer' (last fault) fault)
  -- When each fault comes.
  pub read : IsErrOf answer Read ↔ ((0 < new.failures) × (writer'.failures ≡ 0))
  pub turns_ran_out : IsErrOf answer Turns → new.calls ≡ turns
  pub write : IsErrOf answer Write ↔ (0 < writer'.failures)

-- A dump of all lines.
abbrev pub IsDumped : Account → Account → Account → Account → ℕ → (DumpFault → List ℕ) →
    Result (Option CodecFault) DumpFault → Type 0
IsDumped = IsDumpedBy lines_of

-- What one more piece does, after these bytes.
abbrev pub Shows : Account → Account → Printer → List ℕ → List ℕ → Result Bool DumpFault → Type 0
Shows old new printer bytes piece (Ok enough) = IsShown (bytes ++ piece) printer ×
    (IsTrue enough ↔ HasFault (bytes ++ piece))
    × ((lines : List ℕ) × (lines_of (bytes ++ piece) ≡ lines_of bytes ++ lines) × WentOut old new lines)
Shows old new printer bytes piece (Err Write) =
    (lines : List ℕ) × (lines_of (bytes ++ piece) ≡ lines_of bytes ++ lines) ×
    ((n : ℕ) × WentOut old new (take n lines))
Shows old new printer bytes piece (Err Memory) = new ≡ old
Shows old new printer bytes piece (Err fault) = ⊥
