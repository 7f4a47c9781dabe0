-- What a session keeps that reads ahead of its judges.
use Rattle.std.specs.Prelude.{◌≡◌, ◌⊎◌, ◌++◌, ℕ, true, List, [], Option, Some, None, IsSome, IfSome, Result, OnOk}
use Rattle.std.specs.Prelude.{IfErr}
use Rattle.std.specs.Arc.{arc_value}
use Rattle.lf_rules.specs.declared.event.Record.{Record}
use Rattle.lf_codec.specs.Reader.{with_records}
use Rattle.lf_verdict.specs.declared.session.ahead.Ahead.{Ahead}
use Rattle.lf_verdict.specs.declared.session.intake.Intake.{Intake}
use Rattle.lf_verdict.specs.declared.session.intake.Judging.{Judging}
use Rattle.lf_verdict.specs.declared.session.intake.Judging.TheVariants.{Running}
use Rattle.lf_verdict.specs.declared.session.workers.Workers.{Workers}
use Rattle.lf_verdict.specs.declared.stop.Stop.{Stop}
use Rattle.lf_verdict.specs.Session.{CanTell}
use Rattle.lf_verdict.specs.inner.Fed.{HasTaken, IsStopIn, IsRunningNow, IsAsAsked, IsPlain}
use Rattle.lf_verdict.specs.inner.Taking.{IsSettled}
use Rattle.lf_verdict.specs.inner.Workers.{AreWorkers}

-- the records that the workers judge
abbrev pub lent_records : Option Workers → List Record
lent_records None = []
lent_records (Some workers) = (arc_value workers.batch).records

-- how far the judging was before
abbrev pub judging_before : Judging → Option Workers → Judging
judging_before judging None = judging
judging_before judging (Some workers) = Running workers.standing.value

-- The session as if no worker judged records, and those that are not judged were still to be taken from its reader.
abbrev pub session_of : {G : Type 0} → Ahead G → Intake
session_of a = record a.intake {
  judging = judging_before a.intake.judging a.at_work;
  reader =
      with_records (lent_records a.at_work ++ a.records.records) a.intake.reader;
}

-- No worker is there, and no record waits.
pub record IsIdle {G : Type 0} (a : Ahead G) : Type 0 where
  pub alone : a.at_work ≡ None
  pub none : a.records.records ≡ []

-- Unless it was stopped, it reads ahead only while records are judged, and only where it is not asked what broke first
-- and not for the statistics. Once it was, no worker is there, and where it can still tell what broke no record waits.
pub record IsAhead {G : Type 0} (a : Ahead G) : Type 0 where
  pub ahead : a.intake.stop ≡ None → IsRunningNow (session_of a).judging ⊎ (a.records.records ≡ [])
  pub alone : IsSome a.intake.stop → a.at_work ≡ None
  pub workers : IfSome a.at_work AreWorkers
  pub in_turn : CanTell a.intake.asked a.intake.stop → IsPlain a.intake.asked ⊎ IsIdle a
  pub as_asked : CanTell a.intake.asked a.intake.stop → IsAsAsked a.intake
  pub settled : a.intake.asked.watched ≡ true → IsSettled a.intake

-- Records are judged, it took some bytes, and nothing stopped it.
pub record CanRead {G : Type 0} (a : Ahead G) : Type 0 where
  pub running : IsRunningNow (session_of a).judging
  pub workers : IfSome a.at_work AreWorkers
  pub taken : (bytes : List ℕ) × HasTaken (session_of a) bytes
  pub going : a.intake.stop ≡ None

-- It took the piece, or the result tells what stops it. Its caller stops it.
pub record ReadsOn {G : Type 0} (old new : Ahead G) (piece : List ℕ) (result : Result (Unit {0}) Stop) : Type 0 where
  pub shape : new.intake.shape ≡ old.intake.shape
  pub asked : new.intake.asked ≡ old.intake.asked
  pub stop : new.intake.stop ≡ old.intake.stop
  pub running : OnOk result (IsRunningNow (session_of new).judging)
  pub workers : IfSome new.at_work AreWorkers
  pub taken : OnOk result ((bytes : List ℕ) → HasTaken (session_of old) bytes →
      HasTaken (session_of new) (bytes ++ piece))
  pub stopped : IfErr result (λ stop. (bytes : List ℕ) → HasTaken (session_of old) bytes
      → IsStopIn (bytes ++ piece) stop)
