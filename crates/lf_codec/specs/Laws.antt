-- The laws between the bytes of a trace and what they are read as.
use Rattle.std.specs.Prelude.{◌≡◌, ◌⊎◌, ℕ, ◌<◌, ◌≤◌, List, [], ◌++◌, length, take, slice_index, Option, Some, None}
use Rattle.std.specs.Prelude.{Result, Ok, Err, ◌↔◌, ◌∷◌}
use Rattle.std.specs.List.{flat_map, AllByRecursion}
use Rattle.lf_rules.specs.Fits.{Bytes}
use Rattle.lf_rules.specs.declared.event.Record.{Record}
use Rattle.lf_codec.specs.declared.header.Header.{Header}
use Rattle.lf_codec.specs.declared.fault.CodecCause.{CodecCause}
use Rattle.lf_codec.specs.declared.fault.CodecCause.TheVariants.{Truncated, Trailing, NoMemory}
use Rattle.lf_codec.specs.declared.fault.CodecFault.{CodecFault}
use Rattle.lf_codec.specs.Layout.{header_bytes, memory_bytes, record_bytes}
use Rattle.lf_codec.specs.Checks.{judged, header_checks, log_limit}
use Rattle.lf_codec.specs.Steps.{header_at}
use Rattle.lf_codec.specs.Reading.{Reading, reading_of, truncated_at, fault_so_far, trace_fault, header_of}
use Rattle.lf_codec.specs.Trace.{FitsHeader, FitsMemory, FitsIn, log_len, IsTrace}
use Rattle.lf_codec.specs.Reader.{HasRead, Gives}

abbrev pub AreBytes : List ℕ → Type 0
AreBytes bytes = (i : ℕ) → slice_index bytes i < 256

-- ---- bytes without a fault

-- what the reading makes of the bytes
abbrev pub IsReadAs : List ℕ → Header → List (ℕ × Bytes) → List Record → Type 0
IsReadAs bytes h memory records =
    (trace_fault bytes ≡ None) × (header_of bytes ≡ Some h) × ((reading_of bytes).memory ≡ memory) ×
    ((reading_of bytes).records ≡ records)

-- the reading finds no fault exactly where the bytes are a trace, and then this trace
abbrev pub ReadingIsExact : Type 0
ReadingIsExact = (bytes : List ℕ) (h : Header) (memory : List (ℕ × Bytes)) (records : List Record)
    → AreBytes bytes → IsReadAs bytes h memory records ↔ IsTrace bytes h memory records

-- the bytes are a trace
pub record IsSomeTrace (bytes : List ℕ) : Type 0 where
  pub header : Header
  pub memory : List (ℕ × Bytes)
  pub records : List Record
  pub trace : IsTrace bytes header memory records

-- bytes without a fault are a trace, and a trace has no fault
abbrev pub FaultlessBytesAreTraces : Type 0
FaultlessBytesAreTraces = (bytes : List ℕ) → AreBytes bytes → (trace_fault bytes ≡ None) ↔ IsSomeTrace bytes

-- two traces never have the same bytes
abbrev pub BytesAreOfOneTrace : Type 0
BytesAreOfOneTrace = (bytes : List ℕ) (h h' : Header) (memory memory' : List (ℕ × Bytes))
    (records records' : List Record)
    → IsTrace bytes h memory records → IsTrace bytes h' memory' records' → (h ≡ h') × (memory ≡ memory') ×
    (records ≡ records')

-- a trace has one spelling
abbrev pub TracesHaveOneSpelling : Type 0
TracesHaveOneSpelling = (bytes bytes' : List ℕ) (h : Header) (memory : List (ℕ × Bytes)) (records : List Record)
    → IsTrace bytes h memory records → IsTrace bytes' h memory records → bytes ≡ bytes'

-- no trace begins another
abbrev pub NoTraceBeginsAnother : Type 0
NoTraceBeginsAnother = (bytes more : List ℕ) (h h' : Header) (memory memory' : List (ℕ × Bytes))
    (records records' : List Record)
    → IsTrace bytes h memory records → IsTrace (bytes ++ more) h' memory' records' → more ≡ []

-- ---- bytes with a fault

-- the fault so far is the fault of the bytes where that is not Truncated
abbrev pub FaultsSoFarAreNotTruncated : Type 0
FaultsSoFarAreNotTruncated = (bytes : List ℕ) (f : CodecFault) → (fault_so_far bytes ≡ Some f) ↔
    ((trace_fault bytes ≡ Some f) × (f.cause ≡ Truncated → ⊥))

-- both give the same header, memory records and records
pub record GivesSame (a b : List ℕ) : Type 0 where
  pub header : header_of a ≡ header_of b
  pub memory : (reading_of a).memory ≡ (reading_of b).memory
  pub records : (reading_of a).records ≡ (reading_of b).records

-- with more bytes behind them the fault is the same, and so is what stands before it
pub record IsDecided (bytes more : List ℕ) (f : CodecFault) : Type 0 where
  pub so_far : fault_so_far (bytes ++ more) ≡ Some f
  pub whole : trace_fault (bytes ++ more) ≡ Some f
  pub same : GivesSame (bytes ++ more) bytes

-- a fault that stands in a prefix is the fault of the whole, and nothing behind it is read
abbrev pub FaultsStand : Type 0
FaultsStand = (bytes more : List ℕ) (f : CodecFault) → fault_so_far bytes ≡ Some f → IsDecided bytes more f

-- the bytes before the header or record in which the fault stands have no fault yet, and give all that there is
pub record StandsBefore (bytes : List ℕ) (f : CodecFault) : Type 0 where
  pub within : f.offset ≤ length bytes
  pub fine : fault_so_far (take f.offset bytes) ≡ None
  pub same : GivesSame (take f.offset bytes) bytes

abbrev pub WhatStandsBeforeIsGiven : Type 0
WhatStandsBeforeIsGiven = (bytes : List ℕ) (f : CodecFault) → AreBytes bytes → fault_so_far bytes ≡ Some f →
    StandsBefore bytes f

-- out of memory is no fault of bytes
abbrev pub BytesNeverWantMemory : Type 0
BytesNeverWantMemory = (bytes : List ℕ) (f : CodecFault) → trace_fault bytes ≡ Some f → f.cause ≡ NoMemory → ⊥

-- the bytes of a header, a memory and records, with no end record
abbrev pub beginning : Header → List (ℕ × Bytes) → List Record → List ℕ
beginning h memory records = header_bytes h ++ flat_map memory_bytes memory ++ flat_map record_bytes records

-- the bytes before the header or record in which a fault stands: none before the header, what has been read before a
-- record, and a
-- whole trace before trailing bytes
abbrev pub IsSpelledBefore : Option Header → List (ℕ × Bytes) → List Record → List ℕ → Type 0
IsSpelledBefore None memory records before = before ≡ []
IsSpelledBefore (Some h) memory records before = (before ≡ beginning h memory records) ⊎ IsTrace before h memory records

abbrev pub WhatStandsBeforeIsSpelled : Type 0
WhatStandsBeforeIsSpelled = (bytes : List ℕ) (f : CodecFault) → AreBytes bytes → trace_fault bytes ≡ Some f
    → IsSpelledBefore (header_of bytes) (reading_of bytes).memory (reading_of bytes).records (take f.offset bytes)

-- a byte after a trace is one too many
abbrev pub MoreIsTrailing : Type 0
MoreIsTrailing = (bytes more : List ℕ) (b : ℕ) (h : Header) (memory : List (ℕ × Bytes)) (records : List Record)
    → AreBytes bytes → IsTrace bytes h memory records
    → fault_so_far (bytes ++ b ∷ more) ≡ Some (record { cause = Trailing; offset = length bytes })

-- the bytes end within the header or record that begins here, and what stands before it is all that they give
pub record IsTruncated (bytes : List ℕ) : Type 0 where
  pub offset : ℕ
  pub within : offset ≤ length bytes
  pub fault : trace_fault bytes ≡ truncated_at offset
  pub same : GivesSame (take offset bytes) bytes

-- a trace that lacks bytes at its end is truncated
abbrev pub LessIsTruncated : Type 0
LessIsTruncated = (bytes more : List ℕ) (b : ℕ) (h : Header) (memory : List (ℕ × Bytes)) (records : List Record)
    → AreBytes bytes → IsTrace (bytes ++ b ∷ more) h memory records → IsTruncated bytes

-- ---- the header

abbrev pub header_if : Result (Unit {0}) CodecCause → List ℕ → Option Header
header_if (Ok _) bytes = Some (header_at bytes)
header_if (Err cause) bytes = None

-- the header is there exactly where its 16 bytes are, and pass their checks
pub record HeaderIsOfItsBytes : Type 0 where
  pub fewer : (bytes : List ℕ) → length bytes < 16 → header_of bytes ≡ None
  pub whole : (bytes : List ℕ) → 16 ≤ length bytes → header_of bytes
      ≡ header_if (judged (header_checks (take 16 bytes))) (take 16 bytes)

-- ---- what has been read

-- memory and records that fit this header, with more to come
pub record FitsSoFar (h : Header) (memory : List (ℕ × Bytes)) (records : List Record) : Type 0 where
  pub header : FitsHeader h
  pub few : length memory ≤ h.memory_count
  pub blocks : FitsMemory h.block 0 memory
  pub each : AllByRecursion (FitsIn h) records
  pub logs : (log : ℕ) → log_len log records ≤ log_limit h.version

-- what has been read fits, before the end of the trace and before a fault too
abbrev pub WhatIsReadFits : Type 0
WhatIsReadFits = (bytes : List ℕ) (h : Header) → AreBytes bytes → header_of bytes ≡ Some h →
    FitsSoFar h (reading_of bytes).memory (reading_of bytes).records

-- ---- readers

-- what a reader has read is what it gives
abbrev pub WhatIsReadIsGiven : Type 0
WhatIsReadIsGiven = (r : Reading) (fed : List ℕ) (memory : List (ℕ × Bytes)) (records : List Record) →
    HasRead r fed memory records → Gives r fed memory records
