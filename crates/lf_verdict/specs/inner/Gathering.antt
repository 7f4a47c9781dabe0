-- A trace that is read whole before it is judged.
use Rattle.std.specs.Prelude.{◌≡◌, ◌≢◌, ◌⊎◌, ℕ, List, [], Some, None}
use Rattle.lf_rules.specs.declared.event.Record.{Record}
use Rattle.lf_codec.specs.declared.fault.CodecCause.TheVariants.{NoMemory}
use Rattle.lf_codec.specs.declared.fault.CodecFault.{CodecFault}
use Rattle.lf_codec.specs.Reading.{trace_fault}
use Rattle.lf_codec.specs.Reader.{HasRead}
use Rattle.lf_codec.specs.Trace.{IsTrace}
use Rattle.lf_rules.specs.Lists.{lists_of}
use Rattle.lf_logs.specs.Lists.{logs_of}
use Rattle.lf_verdict.specs.declared.pool.gathering.Gathered.{Gathered}
use Rattle.lf_verdict.specs.declared.pool.gathering.Trace.{Trace}
use Rattle.lf_verdict.specs.declared.stop.Stop.{Stop}
use Rattle.lf_verdict.specs.declared.stop.Stop.TheVariants as stops

-- These bytes were read without a fault; all records that stand in them are in their logs, of which there are so many.
pub record HasGathered (count : ℕ) (g : Gathered) (bytes : List ℕ) : Type 0 where
  pub records : List Record
  pub read : HasRead g.reader bytes g.memory.items records
  pub fine : g.reader.fault ≡ None
  pub logs : lists_of g.logs ≡ logs_of count records
  pub no_memory : g.reader.memory ≡ []
  pub no_records : g.reader.records ≡ []

-- The bytes are this trace, whose records are in their logs, of which there are so many.
pub record IsWholeTrace (count : ℕ) (bytes : List ℕ) (t : Trace) : Type 0 where
  pub records : List Record
  pub trace : IsTrace bytes t.header t.memory.items records
  pub logs : lists_of t.logs ≡ logs_of count records

-- a fault of the reader ends the reading: the format's, or out of memory
abbrev pub IsStopOf : CodecFault → Stop → Type 0
IsStopOf fault (stops.Format told) = (told ≡ fault) × (fault.cause ≢ NoMemory)
IsStopOf fault stops.Memory = fault.cause ≡ NoMemory

-- the fault of these bytes ends their reading, or memory ran out
abbrev pub IsReadStop : List ℕ → Stop → Type 0
IsReadStop bytes (stops.Format fault) = trace_fault bytes ≡ Some fault
IsReadStop bytes stops.Memory = Unit {0}

-- the fault of these bytes, or out of memory
abbrev pub IsFaultOrWant : List ℕ → CodecFault → Type 0
IsFaultOrWant bytes fault = (fault.cause ≡ NoMemory) ⊎ (trace_fault bytes ≡ Some fault)
