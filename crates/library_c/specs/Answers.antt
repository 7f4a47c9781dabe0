-- What the calls answer.
use Rattle.std.specs.Prelude.{◌≡◌, ◌⊎◌, ℕ, List, [], ◌++◌, length, take, drop, min, codes, Option, Some, None, Ok}
use Rattle.std.specs.Prelude.{true, IfSome, IsSome, IsUtf8}
use Rattle.lf_config.specs.Configuration.{configuration_of}
use Rattle.lf_config.specs.declared.fault.ConfigFault.TheVariants.{NotToml}
use Rattle.lf_codec.specs.Reading.{fault_so_far}
use Rattle.lf_verdict.specs.declared.stop.Stop.{Stop}
use Rattle.lf_verdict.specs.declared.session.breaking.Broken.{Broken}
use Rattle.lf_verdict.specs.declared.session.breaking.Broken.TheVariants as broken
use Rattle.lf_verdict.specs.declared.answer.Outcome.{Outcome}
use Rattle.lf_verdict.specs.declared.answer.Outcome.TheVariants.{Yes, No, Refused}
use Rattle.lf_verdict.specs.declared.answer.Refusal.{Refusal}
use Rattle.lf_verdict.specs.declared.answer.Refusal.TheVariants.{Config, Thread}
use Rattle.lf_verdict.specs.Conclusion.{IsLegalOutcome}
use Rattle.lf_verdict.specs.Final.{IsFinal, IsEarliest}
use Rattle.lf_verdict.specs.Laws.{IsRunlessOutcome}
use Rattle.lf_verdict.specs.Named.{NoneBrokeSoFar}
use Rattle.lf_verdict.specs.Outcome.{IsDecidedOutcome, IsOutcomeOf}
use Rattle.lf_verdict.specs.Seen.{Seen}
use Rattle.lf_verdict.specs.Session.{CanTell, IsConfigRefusal, IsRefusalSoFar, refusal_of}
use Rattle.lf_verdict.specs.Text.{broken_text}
use Rattle.run_engine.specs.Line.{outcome_text}
use Rattle.library_c.specs.declared.answer.Answer.{Answer}

-- ---- the line, as it stood before and as it stands now

-- as many bytes of the text as there is room for, over those that stood there
abbrev pub over : List ℕ → List ℕ → List ℕ
over text line = take (min (length text) (length line)) text ++ drop (min (length text) (length line)) line

-- Nothing is written, and 0 is told.
abbrev pub IsQuiet : List ℕ → List ℕ → ℕ → Type 0
IsQuiet line line' told = (line' ≡ line) × (told ≡ 0)

-- The text is written, and its whole length is told; or memory ran out in telling it.
abbrev pub IsTold : List ℕ → List ℕ → List ℕ → ℕ → Type 0
IsTold text line line' told = ((line' ≡ over text line) × (told ≡ length text)) ⊎ IsQuiet line line' told

-- ---- an answer: its status, and its line where it has one

pub record IsSilent (status : ℕ) (answer : Answer) (line line' : List ℕ) : Type 0 where
  pub status_is : answer.status ≡ status
  pub quiet : IsQuiet line line' answer.length

pub record IsLine (status : ℕ) (text : List ℕ) (answer : Answer) (line line' : List ℕ) : Type 0 where
  pub status_is : answer.status ≡ status
  pub told : IsTold text line line' answer.length

-- ---- opening, of a board that has this session or none

-- The session is for the hierarchy that the text says, and was fed nothing. Nothing stopped it. It is asked what breaks
-- first.
pub record IsOpened (text : List ℕ) (session : Seen) : Type 0 where
  pub configured : configuration_of text ≡ Ok session.shape
  pub fed : session.fed ≡ []
  pub going : session.stop ≡ None
  pub watched : session.asked.watched ≡ true

-- The bytes are no text, or no configuration, or memory ran out.
abbrev pub IsNoConfiguration : List ℕ → Refusal → Type 0
IsNoConfiguration text refusal = (¬ IsUtf8 text × (refusal ≡ Config NotToml))
    ⊎ (IsUtf8 text × IsConfigRefusal text refusal)

-- A board that is open stays as it is: 3. Another is open then: 0. Or it is not, and the line says why: 2.
abbrev pub IsOpening : List ℕ → Option Seen → Option Seen → Answer → List ℕ → List ℕ → Type 0
IsOpening text (Some s) now answer line line' = (now ≡ Some s) × IsSilent 3 answer line line'
IsOpening text None (Some s) answer line line' = IsOpened text s × IsSilent 0 answer line line'
IsOpening text None None answer line line' = (refusal : Refusal) × IsNoConfiguration text refusal ×
    IsLine 2 (outcome_text (Refused refusal)) answer line line'

-- ---- feeding

-- 0 while nothing stopped the session
abbrev pub feed_status : Option Stop → ℕ
feed_status None = 0
feed_status (Some stop) = 2

-- The piece is what the session was fed behind all that it was fed before. What stops it is the fault of the format
-- that stands in the bytes so far, or out of memory, and stays.
pub record IsFedMore (piece : List ℕ) (s s' : Seen) (status : ℕ) : Type 0 where
  pub shape : s'.shape ≡ s.shape
  pub asked : s'.asked ≡ s.asked
  pub fed : s'.fed ≡ s.fed ++ piece
  pub status_is : status ≡ feed_status s'.stop
  pub fine : status ≡ 0 → fault_so_far s'.fed ≡ None
  pub reason : IfSome s'.stop (λ stop. IsRefusalSoFar s'.fed (refusal_of stop))
  pub stays : IsSome s.stop → s'.stop ≡ s.stop

abbrev pub IsFeeding : List ℕ → Option Seen → Option Seen → ℕ → Type 0
IsFeeding piece None now status = (now ≡ None) × (status ≡ 3)
IsFeeding piece (Some s) None status = ⊥
IsFeeding piece (Some s) (Some s') status = IsFedMore piece s s' status

-- The line says why the session is refused, where something stopped it.
abbrev pub IsStopTold : Option Stop → Answer → List ℕ → List ℕ → Type 0
IsStopTold None answer line line' = IsSilent 0 answer line line'
IsStopTold (Some stop) answer line line' = IsLine 2 (outcome_text (Refused (refusal_of stop))) answer line line'

pub record IsFedTold (piece : List ℕ) (s s' : Seen) (answer : Answer) (line line' : List ℕ) : Type 0 where
  pub fed : IsFedMore piece s s' answer.status
  pub told : IsStopTold s'.stop answer line line'

abbrev pub IsFeedingTold : List ℕ → Option Seen → Option Seen → Answer → List ℕ → List ℕ → Type 0
IsFeedingTold piece None now answer line line' = (now ≡ None) × IsSilent 3 answer line line'
IsFeedingTold piece (Some s) None answer line line' = ⊥
IsFeedingTold piece (Some s) (Some s') answer line line' = IsFedTold piece s s' answer line line'

-- ---- giving a board up

-- 0 where it was open
abbrev pub abort_status : Option Seen → ℕ
abort_status None = 3
abort_status (Some s) = 0

-- ---- what broke for good

abbrev pub broken_words : Broken → List ℕ
broken_words found = codes "broken " ++ broken_text found

-- 1 where a part is at fault, 2 where the trace is one of another hierarchy
abbrev pub broken_status : Broken → ℕ
broken_status (broken.Header field) = 2
broken_status (broken.Part fault upon) = 1

-- Whatever bytes follow those that the session was fed, no yes does; and the record that is named is the first upon
-- which a part broke.
pub record IsBroken (s : Seen) (found : Broken) : Type 0 where
  pub final : IsFinal s.shape s.fed found
  pub earliest : IsEarliest s.shape s.fed found

-- The line of what broke; or 0, and no part of the records so far is at fault, unless memory ran out.
abbrev pub IsAsking : Option Seen → Answer → List ℕ → List ℕ → Type 0
IsAsking None answer line line' = IsSilent 3 answer line line'
IsAsking (Some s) answer line line' =
    ((found : Broken) × IsBroken s found × IsLine (broken_status found) (broken_words found) answer line line')
    ⊎ ((CanTell s.asked s.stop → NoneBrokeSoFar s.shape s.fed) × IsSilent 0 answer line line')

-- ---- the verdict

-- 0 for a yes, 1 for a no, 2 for a refusal
abbrev pub status_of : Outcome → ℕ
status_of (Yes events) = 0
status_of (No fault) = 1
status_of (Refused refusal) = 2

-- The verdict of the bytes that the session was fed, unless memory ran out. A yes is legal by some order.
pub record IsJudged (s : Seen) (outcome : Outcome) : Type 0 where
  pub verdict : IsDecidedOutcome outcome → IsOutcomeOf s.shape s.fed outcome
  pub legal : IsLegalOutcome s.shape s.fed outcome
  pub runless : IsRunlessOutcome s.shape s.fed outcome
  pub stopped : IfSome s.stop (λ stop. outcome ≡ Refused (refusal_of stop))
  pub no_threads : ¬ (outcome ≡ Refused Thread)

abbrev pub IsFinishing : Option Seen → Answer → List ℕ → List ℕ → Type 0
IsFinishing None answer line line' = IsSilent 3 answer line line'
IsFinishing (Some s) answer line line' = (outcome : Outcome) × IsJudged s outcome ×
    IsLine (status_of outcome) (outcome_text outcome) answer line line'
