-- The laws about outcomes and verdicts.
use Rattle.std.specs.Prelude.{◌≡◌, ℕ, ◌<◌, List, slice_index}
use Rattle.lf_rules.specs.declared.shape.Shape.{Shape}
use Rattle.lf_rules.specs.declared.event.Record.{Record}
use Rattle.lf_rules.specs.Address.{FlatMemory, flat_memory}
use Rattle.lf_rules.specs.Fits.{Bytes}
use Rattle.lf_rules.specs.Order.{IsOrder}
use Rattle.lf_rules.specs.Ring.{skeletons_of}
use Rattle.lf_rules.specs.Run.{of_log, Interleaves, KeepsNumbers, IsRun}
use Rattle.lf_rules.specs.Chosen.{IsCopyRun}
use Rattle.lf_codec.specs.declared.header.Header.{Header}
use Rattle.lf_codec.specs.Trace.{IsTrace}
use Rattle.lf_verdict.specs.declared.answer.Fault.{Fault}
use Rattle.lf_verdict.specs.declared.answer.Outcome.{Outcome}
use Rattle.lf_verdict.specs.declared.answer.Outcome.TheVariants as outcomes
use Rattle.lf_verdict.specs.declared.answer.Verdict.{Verdict}
use Rattle.lf_verdict.specs.declared.answer.Verdict.TheVariants.{Yes, No, Refused}
use Rattle.lf_verdict.specs.Legal.{IsTraceFor, IsLegal}
use Rattle.lf_verdict.specs.Outcome.{IsNo, IsOutcomeOf}
use Rattle.lf_verdict.specs.Parts.{PartsRun}
use Rattle.lf_verdict.specs.Verdict.{outcome_of, IsWorkerCount, IsVerdictOf}

-- Where each part of a trace runs, the trace is legal by each order of its logs that keeps the numbers.
abbrev pub YesIsLegal : Type 0
YesIsLegal = (shape : Shape) (bytes order : List ℕ) (memory : List (ℕ × Bytes)) (logs : List (List Record)) →
    IsTraceFor shape bytes memory logs → PartsRun shape (flat_memory memory) logs → IsOrder (skeletons_of logs) order →
    IsLegal shape bytes order

-- The list holds the logs, each in its own order, and no other records, and keeps the numbers that the banks gave.
pub record IsRecorded (logs : List (List Record)) (rs : List Record) : Type 0 where
  pub own_order : Interleaves logs rs
  pub numbers : KeepsNumbers rs

-- No list of all records that keeps the banks' numbers is a run, and none is a run whose levels hold copies of the
-- bytes.
abbrev pub HasNoRun : Shape → FlatMemory → List (List Record) → Type 0
HasNoRun shape memory logs = (rs : List Record) → IsRecorded logs rs → ¬ IsRun shape memory rs ×
    ¬ IsCopyRun shape memory rs

-- The trace in the bytes has no run: no list of its records that keeps each log's order and the banks' numbers is one.
abbrev pub IsRunless : Shape → List ℕ → Type 0
IsRunless shape bytes = (memory : List (ℕ × Bytes)) (logs : List (List Record)) → IsTraceFor shape bytes memory logs →
    HasNoRun shape (flat_memory memory) logs

-- Where the answer is no, the trace has no run.
abbrev pub NoHasNoRun : Type 0
NoHasNoRun = (shape : Shape) (bytes : List ℕ) (fault : Fault) → IsNo shape bytes fault → IsRunless shape bytes

-- A no means that the trace has no run,
abbrev pub IsRunlessNo : Shape → List ℕ → Verdict → Type 0
IsRunlessNo shape bytes (No fault) = IsRunless shape bytes
IsRunlessNo shape bytes _ = Unit {0}

-- ... and so it does where no order is told after a yes.
abbrev pub IsRunlessOutcome : Shape → List ℕ → Outcome → Type 0
IsRunlessOutcome shape bytes (outcomes.No fault) = IsRunless shape bytes
IsRunlessOutcome shape bytes _ = Unit {0}

-- ---- one answer

-- Bytes have one outcome.
abbrev pub OneOutcome : Type 0
OneOutcome = (shape : Shape) (bytes : List ℕ) (a b : Outcome) → ((i : ℕ) → slice_index bytes i < 256)
    → IsOutcomeOf shape bytes a → IsOutcomeOf shape bytes b → a ≡ b

-- the same verdict, wherever its order lies in memory
abbrev pub SameVerdict : Verdict → Verdict → Type 0
SameVerdict (Yes events order) (Yes events' order') = (events ≡ events') × (order.items ≡ order'.items)
SameVerdict (No fault) (No fault') = fault ≡ fault'
SameVerdict (Refused refusal) (Refused refusal') = refusal ≡ refusal'
SameVerdict _ _ = ⊥

-- Bytes have one verdict.
abbrev pub VerdictsAreOne : Type 0
VerdictsAreOne = (shape : Shape) (workers : ℕ) (bytes : List ℕ) (a b : Verdict) → ((i : ℕ) → slice_index bytes i < 256)
    → IsVerdictOf shape workers bytes a → IsVerdictOf shape workers bytes b → SameVerdict a b

-- Whatever the number of workers, it tells the outcome of the bytes.
abbrev pub VerdictsTellOutcomes : Type 0
VerdictsTellOutcomes = (shape : Shape) (workers : ℕ) (bytes : List ℕ) (verdict : Verdict) → IsWorkerCount workers →
    IsVerdictOf shape workers bytes verdict → IsOutcomeOf shape bytes (outcome_of verdict)

-- So they have the same with any other number of workers.
abbrev pub WorkersAreAlike : Type 0
WorkersAreAlike = (shape : Shape) (workers other : ℕ) (bytes : List ℕ) (a b : Verdict) →
    ((i : ℕ) → slice_index bytes i < 256)
    → IsWorkerCount workers → IsWorkerCount other → IsVerdictOf shape workers bytes a →
    IsVerdictOf shape other bytes b → SameVerdict a b

-- The bytes are traces of one header, one memory and the same logs, however these are mixed.
pub record AreMixtures (bytes other : List ℕ) : Type 0 where
  pub header : Header
  pub memory : List (ℕ × Bytes)
  pub records : List Record
  pub others : List Record
  pub trace : IsTrace bytes header memory records
  pub other_trace : IsTrace other header memory others
  pub same_logs : (log : ℕ) → of_log log records ≡ of_log log others

-- They have the same outcomes,
abbrev pub MixturesHaveOneOutcome : Type 0
MixturesHaveOneOutcome = (shape : Shape) (bytes other : List ℕ) (outcome : Outcome) →
    ((i : ℕ) → slice_index bytes i < 256)
    → AreMixtures bytes other → IsOutcomeOf shape bytes outcome → IsOutcomeOf shape other outcome

-- and the same verdicts.
abbrev pub MixturesAreAlike : Type 0
MixturesAreAlike = (shape : Shape) (workers : ℕ) (bytes other : List ℕ) (verdict : Verdict) →
    ((i : ℕ) → slice_index bytes i < 256)
    → AreMixtures bytes other → IsVerdictOf shape workers bytes verdict → IsVerdictOf shape workers other verdict
