-- What an intake takes from its reader.
use Rattle.std.specs.Prelude.{◌≡◌, ◌<◌, ◌≤◌, Bool, true, ℕ, List, [], ◌++◌, length, take, Some, Result, Ok, Err}
use Rattle.lf_rules.specs.declared.shape.Shape.{Shape}
use Rattle.lf_rules.specs.declared.event.Record.{Record}
use Rattle.lf_rules.specs.Address.{flat_memory}
use Rattle.lf_rules.specs.Fits.{Bytes}
use Rattle.lf_codec.specs.declared.header.Header.{Header}
use Rattle.lf_codec.specs.Reading.{Reading, header_now}
use Rattle.lf_codec.specs.Reader.{HasRead, with_records}
use Rattle.lf_verdict.specs.declared.session.intake.Intake.{Intake}
use Rattle.lf_verdict.specs.declared.session.intake.Judging.{Judging}
use Rattle.lf_verdict.specs.declared.session.intake.Judging.TheVariants.{Waiting, Running, Another}
use Rattle.lf_verdict.specs.declared.session.standing.Standing.{Standing}
use Rattle.lf_verdict.specs.Session.{CanTell}
use Rattle.lf_verdict.specs.inner.Fed.{IsRunning}
use Rattle.lf_verdict.specs.Standing.{Counts, IsWatch, IsKnown, StandsAfterAll}

-- No memory record waits in the reader, and the header is not there or lacks memory records.
pub record IsLacking (reader : Reading) (memory : List (ℕ × Bytes)) : Type 0 where
  pub none : reader.memory ≡ []
  pub lacks : (h : Header) → header_now reader ≡ Some h → ¬ (length memory ≡ h.memory_count)

-- ... where the session waits
abbrev pub IsLackingIf : Judging → Reading → List (ℕ × Bytes) → Type 0
IsLackingIf Waiting reader memory = IsLacking reader memory
IsLackingIf _ reader memory = Unit {0}

-- No memory record is kept, and neither one nor a record waits in the reader.
pub record KeepsNothing (reader : Reading) (memory : List (ℕ × Bytes)) : Type 0 where
  pub none_kept : memory ≡ []
  pub none_waits : reader.memory ≡ []
  pub no_record : reader.records ≡ []

-- What can be judged was taken from the reader. Of a trace of another hierarchy nothing is kept.
abbrev pub IsDrained : Judging → Reading → List (ℕ × Bytes) → Type 0
IsDrained Waiting reader memory = IsLacking reader memory
IsDrained (Running running) reader memory = reader.records ≡ []
IsDrained (Another field) reader memory = KeepsNothing reader memory

-- Where it can be told what broke, what can be judged was taken.
abbrev pub IsSettled : Intake → Type 0
IsSettled s = CanTell s.asked s.stop → IsDrained s.judging s.reader s.memory.items

-- the session that stands so before these records
abbrev pub running_before : Standing → List Record → Intake → Intake
running_before standing records s = record s { judging = Running standing; reader = with_records records s.reader }

-- The parts stand where the records lead that were taken from the reader.
pub record CanJudge (reader : Reading) (standing : Standing) : Type 0 where
  pub shape : Shape
  pub ordered : Bool
  pub bytes : List ℕ
  pub memory : List (ℕ × Bytes)
  pub records : List Record
  pub read : HasRead reader bytes memory records
  pub run : IsRunning shape ordered bytes memory records standing

-- These bytes more lead the reader and the parts on: the records that were taken from it before it stood so, and some
-- more, are those on which the parts were judged.
abbrev pub RunsOn : Reading → Standing → List ℕ → Reading → Standing → Type 0
RunsOn old before bytes new after = (shape : Shape) (ordered : Bool) (fed : List ℕ) (memory : List (ℕ × Bytes))
    (records : List Record) → HasRead old fed memory records → IsRunning shape ordered fed memory records before
    → (more : List Record) × (HasRead new (fed ++ bytes) memory more ×
    IsRunning shape ordered (fed ++ bytes) memory more after)

-- From here on records are judged, the first of which begins at `start`. What is asked for is done.
pub record Begins (old : Intake) (start : ℕ) (new : Intake) : Type 0 where
  pub running : Standing
  pub rest : new ≡ record old { judging = Running running }
  pub stands : StandsAfterAll old.shape (flat_memory old.memory.items) [] running
  pub watched : IsWatch start old.shape (flat_memory old.memory.items) [] running.watch
  pub known : old.asked.watched ≡ true → IsKnown running.watch
  pub keeps : running.entries.keeps ≡ old.asked.ordered
  pub counts : old.asked.counted ≡ true → Counts running

-- ---- what is fed in parts

-- the answer of a feed that says how many bytes it took, without their number
abbrev pub answer_of : {F : Type 0} → Result ℕ F → Result (Unit {0}) F
answer_of (Ok n) = Ok tt
answer_of (Err fault) = Err fault

-- the bytes that such a feed took; those behind a fault change nothing
abbrev pub bytes_taken : {F : Type 0} → Result ℕ F → List ℕ → List ℕ
bytes_taken (Ok n) bytes = take n bytes
bytes_taken (Err fault) bytes = bytes

-- it took no more bytes than there are, and one at least where there is one
abbrev pub TakesSome : List ℕ → ℕ → Type 0
TakesSome bytes n = (n ≤ length bytes) × (0 < length bytes → 0 < n)
