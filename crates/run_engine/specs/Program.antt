-- What a run reads, answers and writes whose answer is a verdict with its order.
use Rattle.std.specs.Prelude.{◌≡◌, ◌≢◌, ◌↔◌, ℕ, ◌≤◌, ◌<◌, List, [], ◌∷◌, ◌++◌, take, Result, Ok, Err}
use Rattle.std.specs.Prelude.{IfOk, IfErr, IfSome, IsErrOf}
use Rattle.lf_rules.specs.declared.shape.Shape.{Shape}
use Rattle.lf_config.specs.Configuration.{configuration_of}
use Rattle.lf_verdict.specs.declared.answer.Verdict.{Verdict}
use Rattle.lf_verdict.specs.declared.answer.Verdict.TheVariants.{Yes, No, Refused}
use Rattle.lf_verdict.specs.declared.answer.Refusal.TheVariants.{Thread}
use Rattle.lf_verdict.specs.declared.session.conclusion.Conclusion.{Conclusion}
use Rattle.lf_verdict.specs.Conclusion.{verdict_of}
use Rattle.lf_verdict.specs.Verdict.{IsWorkerCount, IsDecided}
use Rattle.run_stream.specs.Account.{Account, WentOut}
use Rattle.run_stream.specs.Gathered.{GoesOn, EndsOnce}
use Rattle.run_engine.specs.declared.fault.RunFault.{RunFault}
use Rattle.run_engine.specs.declared.fault.RunFault.TheVariants.{Read, Turns, Write}
use Rattle.run_engine.specs.Gathered.{HasFault}
use Rattle.run_engine.specs.Line.{verdict_text, not_read_line}
use Rattle.run_engine.specs.Run.{GaveSome, Reads}

-- There can be so many workers and the text says a shape, so the trace is asked for.
abbrev pub IsAsked : List ℕ → ℕ → Type 0
IsAsked text workers = IsWorkerCount workers × ((shape : Shape) × (configuration_of text ≡ Ok shape))

-- The verdict is that of the bytes that the reader answered. Where the trace was not asked for, nothing was read.
pub record IsVerdictOfRead (old new : Account) (asked : Type 0) (IsVerdict : List ℕ → Verdict → Type 0)
    (v : Verdict) : Type 0 where
  pub bytes : List ℕ
  pub reads : asked → Reads old new bytes
  pub verdict : IsVerdict bytes v

-- The bytes that the reader answered are a legal trace, by this order.
pub record IsLegalRead (old new : Account) (IsLegal : List ℕ → List ℕ → Type 0) (order : List ℕ) : Type 0 where
  pub bytes : List ℕ
  pub reads : Reads old new bytes
  pub legal : IsLegal bytes order

-- The bytes that the reader answered have no run where the verdict is a no.
pub record IsRunlessRead (old new : Account) (IsRunless : List ℕ → Type 0) : Type 0 where
  pub bytes : List ℕ
  pub reads : Reads old new bytes
  pub runless : IsRunless bytes

abbrev pub IfNo : Verdict → Type 0 → Type 0
IfNo (No fault) P = P
IfNo _ P = Unit {0}

abbrev pub IfYes : Verdict → (List ℕ → Type 0) → Type 0
IfYes (Yes events order) P = P order.items
IfYes _ P = Unit {0}

-- the verdict that a run came to
abbrev pub verdict_in : Result Conclusion RunFault → Result Verdict RunFault
verdict_in (Ok conclusion) = Ok (verdict_of conclusion)
verdict_in (Err fault) = Err fault

-- the line of what a run came to
abbrev pub answer_line : Result Verdict RunFault → List ℕ
answer_line (Ok v) = verdict_text v ++ 10 ∷ []
answer_line (Err fault) = not_read_line

-- What a run came to before it wrote: when the trace is asked for, which orders make it legal and which verdict is
-- that of some bytes is as it was said.
pub record IsOutcome (old new : Account) (asked : Type 0) (IsLegal : List ℕ → List ℕ → Type 0)
    (IsVerdict : List ℕ → Verdict → Type 0) (turns : ℕ) (outcome : Result Verdict RunFault) : Type 0 where
  pub reads : new.calls ≤ turns
  pub unread : ¬ asked → new ≡ old
  pub once : EndsOnce old.pieces new.pieces
  pub verdict : IfOk outcome (λ v. IsDecided v → IsVerdictOfRead old new asked IsVerdict v)
  pub legal : IfOk outcome (λ v. IfYes v (IsLegalRead old new IsLegal))
  pub no_thread : outcome ≢ Ok (Refused Thread)
  pub read : (outcome ≡ Err Read) ↔ (0 < new.failures)
  pub turned : outcome ≡ Err Turns → new.calls ≡ turns
  pub sound : IfErr outcome (λ _. GaveSome HasFault old new)
  pub unended : IfErr outcome (λ _. GoesOn old.pieces new.pieces)
  pub no_write : outcome ≢ Err Write

-- What a run reads, answers and writes. The words handed in say when the trace is asked for, by which orders bytes
-- are legal, what a no means of bytes, and which verdict they have. The counts of the reader and of the writer were 0.
-- What is said of the bytes that the reader answered holds for any reader, and what is said of all that it had for one
-- of which that is known.
pub record IsRunOfProgram (reader reader' writer writer' : Account) (asked : Type 0)
    (IsLegal : List ℕ → List ℕ → Type 0) (IsRunless IsVerdict : List ℕ → Verdict → Type 0)
    (turns : ℕ) (answer : Result Verdict RunFault) : Type 0 where
  -- No more reads than the caller allows, and none where the trace is not asked for.
  pub reads : reader'.calls ≤ turns
  pub unread : ¬ asked → reader' ≡ reader
  -- A read that answers no bytes is the last one.
  pub once : EndsOnce reader.pieces reader'.pieces
  -- A yes means that the bytes that the reader answered are a legal trace, and so are all that it had.
  pub legal : IfOk answer (λ v. IfYes v (IsLegalRead reader reader' IsLegal))
  pub legal_whole : IfOk answer (λ v. IfSome reader.known (λ bytes. IfYes v (IsLegal bytes)))
  -- A no means that the bytes that the reader answered have no run, and so with all that it had.
  pub runless : IfOk answer (λ v. IfNo v (IsRunlessRead reader reader' (λ bytes. IsRunless bytes v)))
  pub runless_whole : IfOk answer (λ v. IfSome reader.known (λ bytes. IsRunless bytes v))
  -- The verdict is that of the bytes that the reader answered, and of all that it had.
  pub verdict : IfOk answer (λ v. IsDecided v → IsVerdictOfRead reader reader' asked IsVerdict v)
  pub whole : IfOk answer (λ v. IsDecided v → IfSome reader.known (λ bytes. IsVerdict bytes v))
  pub thread : answer ≢ Ok (Refused Thread)
  -- What goes out is the line of the verdict, or that the trace was not read.
  pub written : answer ≢ Err Write → WentOut writer writer' (answer_line answer)
  -- When each fault comes.
  pub read : IsErrOf answer Read ↔ ((0 < reader'.failures) × (writer'.failures ≡ 0))
  pub turns_ran_out : IsErrOf answer Turns → reader'.calls ≡ turns
  pub write : IsErrOf answer Write ↔ (0 < writer'.failures)
  -- Where a read failed or the turns were used up, no fault stood in what was read, and no read said that the bytes
  -- end.
  pub sound : IfErr answer (λ e. e ≢ Write → GaveSome HasFault reader reader')
  pub unended : IfErr answer (λ e. e ≢ Write → GoesOn reader.pieces reader'.pieces)
  -- Where a write failed, what went out is the beginning of the line.
  pub prefix : IsErrOf answer Write → (told : Result Verdict RunFault)
      × IsOutcome reader reader' asked IsLegal IsVerdict turns told
      × ((n : ℕ) × WentOut writer writer' (take n (answer_line told)))
