-- What a run reads, answers and writes, whatever is asked.
use Rattle.std.specs.Prelude.{◌≡◌, ◌≢◌, ◌⊎◌, ◌↔◌, ℕ, ◌≤◌, ◌<◌, List, take, true, false, Option, Some, None}
use Rattle.std.specs.Prelude.{Result, Ok, Err, IfOk, IfErr, IfSome, IsErrOf}
use Rattle.lf_verdict.specs.declared.fed.Fed.{Fed}
use Rattle.lf_rules.specs.declared.shape.Shape.{Shape}
use Rattle.lf_codec.specs.Laws.{AreBytes}
use Rattle.lf_config.specs.Configuration.{configuration_of}
use Rattle.lf_verdict.specs.declared.answer.Outcome.{Outcome}
use Rattle.lf_verdict.specs.declared.answer.Outcome.TheVariants.{Refused}
use Rattle.lf_verdict.specs.declared.answer.Refusal.{Refusal}
use Rattle.lf_verdict.specs.declared.answer.Refusal.TheVariants.{Workers, Config, Memory}
use Rattle.lf_verdict.specs.declared.session.conclusion.Conclusion.{Conclusion}
use Rattle.lf_verdict.specs.Conclusion.{IsConclusion, refused, without_memory}
use Rattle.lf_verdict.specs.Outcome.{IsOutcomeOf, IsDecidedOutcome}
use Rattle.lf_verdict.specs.Configured.{IsConfigFault}
use Rattle.lf_verdict.specs.Verdict.{IsWorkerCount}
use Rattle.run_stream.specs.Account.{Account, WentOut}
use Rattle.run_stream.specs.Gathered.{IsPartRead, IsAllRead, GoesOn, EndsOnce}
use Rattle.run_engine.specs.declared.ask.Needs.{Needs}
use Rattle.run_engine.specs.declared.fault.RunFault.{RunFault}
use Rattle.run_engine.specs.declared.fault.RunFault.TheVariants.{Read, Turns, Write}
use Rattle.run_engine.specs.declared.judging.Judged.{Judged}
use Rattle.run_engine.specs.Gathered.{HasFault, HasEnough}

-- ---- what is read

-- the most bytes that one read asks for
abbrev pub piece_len : ℕ
piece_len = 65536

-- These are the bytes that the reader answered between two moments, and then no more were wanted: the last read
-- answered none, or what makes them enough came with it.
pub record ReadsUntil (HasEnough : List ℕ → Type 0) (old new : Account) (bytes : List ℕ) : Type 0 where
  pub are_bytes : AreBytes bytes
  pub all : IsAllRead HasEnough piece_len old new bytes

-- ... where a fault makes them enough
abbrev pub Reads : Account → Account → List ℕ → Type 0
Reads old new bytes = ReadsUntil HasFault old new bytes

-- The reader answered bytes that are not enough.
abbrev pub GaveSome : (List ℕ → Type 0) → Account → Account → Type 0
GaveSome HasEnough old new = (bytes : List ℕ) × IsPartRead HasEnough old new bytes

-- ---- what is answered

-- What is said of these bytes is so of all bytes: they are all, or what is refused in them is refused in all.
abbrev pub IsWhole : Shape → List ℕ → List ℕ → Outcome → Type 0
IsWhole shape bytes all (Refused refusal) = IsDecidedOutcome (Refused refusal) → IsOutcomeOf shape all (Refused refusal)
IsWhole shape bytes all outcome = all ≡ bytes

-- What is concluded is so of the bytes that the reader answered until no more were wanted. It is so of all that the
-- reader had, where that is known, unless the run was to end early.
pub record IsOfRead (old new : Account) (needs : Needs) (shape : Shape) (c : Conclusion) : Type 0 where
  pub is : IsConclusion needs.asked shape c
  pub reads : IsDecidedOutcome c.outcome → ReadsUntil (HasEnough needs shape) old new c.fed.bytes
  pub whole : needs.early ≡ false → IfSome old.known (λ all. IsWhole shape c.fed.bytes all c.outcome)

-- What a run came to before it wrote.
pub record IsJudged (old new : Account) (needs : Needs) (shape : Shape) (turns : ℕ) (came_to : Result Judged RunFault) :
    Type 0 where
  -- No more reads than the caller allows. A read that answers no bytes is the last one.
  pub reads : new.calls ≤ turns
  pub once : EndsOnce old.pieces new.pieces
  pub concluded : IfOk came_to (λ j. IsOfRead old new needs shape j.conclusion)
  -- The bytes are there where they are needed.
  pub kept : IfOk came_to (λ j. needs.bytes ≡ true → IsDecidedOutcome j.conclusion.outcome →
      j.bytes.items ≡ j.conclusion.fed.bytes)
  -- When each fault comes.
  pub read : (came_to ≡ Err Read) ↔ (0 < new.failures)
  pub turned : came_to ≡ Err Turns → new.calls ≡ turns
  -- Where a read failed or the turns were used up, what was read was not enough, and no read said that the bytes end.
  pub sound : IfErr came_to (λ _. GaveSome (HasEnough needs shape) old new)
  pub unended : IfErr came_to (λ _. GoesOn old.pieces new.pieces)
  pub no_write : came_to ≢ Err Write

abbrev pub conclusion_in : Result Judged RunFault → Result Conclusion RunFault
conclusion_in (Ok judged) = Ok judged.conclusion
conclusion_in (Err fault) = Err fault

-- ---- what is written

-- What is told is what a run came to, or that memory ran out in telling it.
abbrev pub Follows : Result Conclusion RunFault → Result Conclusion RunFault → Type 0
Follows (Ok c) told = (told ≡ Ok c) ⊎ (told ≡ Ok (without_memory c.fed))
Follows (Err fault) told = told ≡ Err fault

-- The text is due for this answer: for a conclusion what is asked, and otherwise what says that the trace was not read.
abbrev pub IsTextFor : (Conclusion → List ℕ → Type 0) → List ℕ → Result Conclusion RunFault → List ℕ → Type 0
IsTextFor IsDue lost (Ok c) text = IsDue c text
IsTextFor IsDue lost (Err fault) text = text ≡ lost

-- What went out after a write that failed is the beginning of what was due.
pub record IsBeginning (writer writer' : Account) (came_to : Result Conclusion RunFault)
    (IsDue : Conclusion → List ℕ → Type 0) (lost : List ℕ) : Type 0 where
  pub told : Result Conclusion RunFault
  pub follows : Follows came_to told
  pub text : List ℕ
  pub due : IsTextFor IsDue lost told text
  pub n : ℕ
  pub out : WentOut writer writer' (take n text)

-- What a run came to was told. The count of the writer's failures was 0.
pub record IsTold (writer writer' : Account) (came_to : Result Conclusion RunFault)
    (IsDue : Conclusion → List ℕ → Type 0) (lost : List ℕ) (answer : Result Conclusion RunFault) : Type 0 where
  pub write : IsErrOf answer Write ↔ (0 < writer'.failures)
  pub follows : answer ≢ Err Write → Follows came_to answer
  pub written : answer ≢ Err Write → (text : List ℕ) × IsTextFor IsDue lost answer text × WentOut writer writer' text
  pub prefix : answer ≡ Err Write → IsBeginning writer writer' came_to IsDue lost

-- ---- a run

-- A run for a shape: it came to this, and told it. The counts of the reader and of the writer were 0.
pub record IsRun (reader reader' writer writer' : Account) (needs : Needs) (shape : Shape)
    (IsDue : Conclusion → List ℕ → Type 0) (lost : List ℕ) (turns : ℕ) (answer : Result Conclusion RunFault) : Type 0
  where
    pub came_to : Result Judged RunFault
    pub judged : IsJudged reader reader' needs shape turns came_to
    pub told : IsTold writer writer' (conclusion_in came_to) IsDue lost answer

-- The trace was not asked for: nothing was read, and the refusal was told.
pub record IsRefused (reader reader' writer writer' : Account) (IsDue : Conclusion → List ℕ → Type 0) (lost : List ℕ)
    (refusal : Refusal) (answer : Result Conclusion RunFault) : Type 0 where
  pub unread : reader' ≡ reader
  pub fed : Fed
  pub told : IsTold writer writer' (Ok (refused fed refusal)) IsDue lost answer

-- The one for a shape that was found, the other where one was refused.
abbrev pub IsRunOn : Account → Account → Account → Account → Needs → (Option Shape → Conclusion → List ℕ → Type 0) →
    List ℕ → ℕ → Result Shape Refusal → Result Conclusion RunFault → Type 0
IsRunOn reader reader' writer writer' needs IsDue lost turns (Ok shape) answer =
    IsRun reader reader' writer writer' needs shape (IsDue (Some shape)) lost turns answer
IsRunOn reader reader' writer writer' needs IsDue lost turns (Err refusal) answer =
    IsRefused reader reader' writer writer' (IsDue None) lost refusal answer

-- The refusal comes before the trace is asked for: the workers are judged first, then the text.
abbrev pub IsRefusedFirst : List ℕ → ℕ → Refusal → Type 0
IsRefusedFirst text workers (Workers n) = (n ≡ workers) × ¬ IsWorkerCount workers
IsRefusedFirst text workers (Config fault) = IsWorkerCount workers × IsConfigFault text fault
IsRefusedFirst text workers Memory = Unit {0}
IsRefusedFirst text workers _ = ⊥

-- There can be so many workers, and the text says the shape; or it is refused.
abbrev pub IsShapeFor : List ℕ → ℕ → Result Shape Refusal → Type 0
IsShapeFor text workers (Ok shape) = IsWorkerCount workers × (configuration_of text ≡ Ok shape)
IsShapeFor text workers (Err refusal) = IsRefusedFirst text workers refusal

-- A run for the text of a configuration.
pub record IsRunFor (reader reader' writer writer' : Account) (text : List ℕ) (workers : ℕ) (needs : Needs)
    (IsDue : Option Shape → Conclusion → List ℕ → Type 0) (lost : List ℕ) (turns : ℕ)
    (answer : Result Conclusion RunFault) : Type 0 where
  pub found : Result Shape Refusal
  pub is_found : IsShapeFor text workers found
  pub run : IsRunOn reader reader' writer writer' needs IsDue lost turns found answer
