-- What a session keeps of the bytes that it was fed.
use Rattle.std.specs.Prelude.{◌≡◌, Bool, ℕ, true, false, List, [], length, Option, Some, None}
use Rattle.lf_rules.specs.declared.event.Record.{Record}
use Rattle.lf_rules.specs.declared.shape.Shape.{Shape}
use Rattle.lf_rules.specs.Address.{flat_memory}
use Rattle.lf_rules.specs.Fits.{Bytes}
use Rattle.lf_rules.specs.InRange.{IsShape}
use Rattle.lf_codec.specs.declared.header.Header.{Header}
use Rattle.lf_codec.specs.Laws.{AreBytes}
use Rattle.lf_codec.specs.Reading.{header_of, fault_so_far}
use Rattle.lf_codec.specs.Reader.{HasRead}
use Rattle.lf_verdict.specs.declared.session.asked.Asked.{Asked}
use Rattle.lf_verdict.specs.declared.session.intake.Intake.{Intake}
use Rattle.lf_verdict.specs.declared.stop.Stop.{Stop}
use Rattle.lf_verdict.specs.declared.stop.Stop.TheVariants as stops
use Rattle.lf_verdict.specs.declared.session.intake.Judging.{Judging}
use Rattle.lf_verdict.specs.declared.session.intake.Judging.TheVariants.{Waiting, Running, Another}
use Rattle.lf_verdict.specs.declared.session.standing.Standing.{Standing}
use Rattle.lf_verdict.specs.Legal.{Agrees}
use Rattle.lf_verdict.specs.Breaking.{first_offset}
use Rattle.lf_verdict.specs.Session.{CanTell, IsOfAnotherHeader}
use Rattle.lf_verdict.specs.Standing.{Counts, IsWatch, IsKnown, StandsAfterAll}

-- The memory is whole and of a header that agrees with the shape, the parts stand where the records lead, and it is
-- known whether one broke.
pub record IsRunning (shape : Shape) (ordered : Bool) (bytes : List ℕ) (memory : List (ℕ × Bytes))
    (records : List Record) (running : Standing) : Type 0 where
  pub header : Header
  pub read : header_of bytes ≡ Some header
  pub agrees : Agrees shape header
  pub whole : length memory ≡ header.memory_count
  pub stands : StandsAfterAll shape (flat_memory memory) records running
  pub watched : IsWatch (first_offset header memory) shape (flat_memory memory) records running.watch
  -- every entry is kept where an order is asked for
  pub keeping : running.entries.keeps ≡ ordered

-- No record was taken before the memory is whole; from then on each is judged, unless the header is of another
-- hierarchy.
abbrev pub IsJudging : Shape → Bool → List ℕ → List (ℕ × Bytes) → List Record → Judging → Type 0
IsJudging shape ordered bytes memory records Waiting = records ≡ []
IsJudging shape ordered bytes memory records (Running running) = IsRunning shape ordered bytes memory records running
IsJudging shape ordered bytes memory records (Another field) = IsOfAnotherHeader shape bytes field

-- Of the memory records that were taken all are kept, and none of a trace of another hierarchy.
abbrev pub IsKept : Judging → List (ℕ × Bytes) → List (ℕ × Bytes) → Type 0
IsKept (Another field) taken kept = kept ≡ []
IsKept _ taken kept = taken ≡ kept

-- The session was fed these bytes, and took these records from them, and these memory records.
pub record HasJudged (s : Intake) (bytes : List ℕ) (records : List Record) : Type 0 where
  pub in_range : IsShape s.shape
  pub taken : List (ℕ × Bytes)
  pub kept : IsKept s.judging taken s.memory.items
  pub read : HasRead s.reader bytes taken records
  pub fine : s.stop ≡ None → s.reader.fault ≡ None
  pub judging : IsJudging s.shape s.asked.ordered bytes taken records s.judging

-- ... whichever records they are.
abbrev pub HasTaken : Intake → List ℕ → Type 0
HasTaken s bytes = (records : List Record) × HasJudged s bytes records

-- Records are judged.
abbrev pub IsRunningNow : Judging → Type 0
IsRunningNow (Running running) = Unit {0}
IsRunningNow _ = ⊥

-- While records are judged, it is known upon which a part broke first.
abbrev pub IsWatched : Judging → Type 0
IsWatched (Running running) = IsKnown running.watch
IsWatched _ = Unit {0}

-- While records are judged, each bank counts them.
abbrev pub IsCounting : Judging → Type 0
IsCounting (Running running) = Counts running
IsCounting _ = Unit {0}

-- Where it is asked what broke first the records are judged one after another, so that it is known upon which a part
-- did. Where the statistics are asked for, each bank counts.
pub record IsAsAsked (s : Intake) : Type 0 where
  pub known : s.asked.watched ≡ true → IsWatched s.judging
  pub counting : s.asked.counted ≡ true → IsCounting s.judging

-- Neither is asked for.
pub record IsPlain (asked : Asked) : Type 0 where
  pub unwatched : asked.watched ≡ false
  pub uncounted : asked.counted ≡ false

-- The fault stands in the bytes, or memory ran out.
abbrev pub IsStopIn : List ℕ → Stop → Type 0
IsStopIn bytes (stops.Format fault) = (fault_so_far bytes ≡ Some fault) × AreBytes bytes
IsStopIn bytes stops.Memory = Unit {0}

-- Nothing stopped the session and it has judged the records that it took; or a fault that stands in the bytes stopped
-- it, and where it can still tell what broke, it took what stands before that; or memory ran out.
abbrev pub HasFedUntil : Intake → List ℕ → Option Stop → Type 0
HasFedUntil s bytes None = HasTaken s bytes
HasFedUntil s bytes (Some (stops.Format fault)) = IsStopIn bytes (stops.Format fault) ×
    (CanTell s.asked (Some (stops.Format fault)) → HasTaken s bytes)
HasFedUntil s bytes (Some stops.Memory) = Unit {0}

-- The session was fed these bytes.
abbrev pub HasFed : Intake → List ℕ → Type 0
HasFed s bytes = HasFedUntil s bytes s.stop
