-- What the check of a trace's logs ends with.
use Rattle.std.specs.Prelude.{◌≡◌, ℕ, ◌<◌, List, length, slice_index_or}
use Rattle.lf_rules.specs.declared.shape.Shape.{Shape}
use Rattle.lf_rules.specs.declared.event.Record.{Record}
use Rattle.lf_rules.specs.declared.outcome.Outcome.{Outcome}
use Rattle.lf_rules.specs.declared.outcome.Outcome.TheVariants as outcomes
use Rattle.lf_rules.specs.Address.{FlatMemory}
use Rattle.lf_rules.specs.Order.{IsLeastOrder}
use Rattle.lf_rules.specs.Ring.{skeletons_of}
use Rattle.lf_logs.specs.declared.order.NumberFault.{NumberFault}
use Rattle.lf_logs.specs.declared.order.NumberFault.TheVariants as numbers
use Rattle.lf_verdict.specs.declared.answer.Fault.TheVariants as faults
use Rattle.lf_verdict.specs.declared.broken_part.BrokenPart.{BrokenPart}
use Rattle.lf_verdict.specs.declared.early_end.Ending.{Ending}
use Rattle.lf_verdict.specs.declared.early_end.Ending.TheVariants as endings
use Rattle.lf_verdict.specs.declared.answer.Verdict.{Verdict}
use Rattle.lf_verdict.specs.declared.answer.Verdict.TheVariants.{Yes, No, Refused}
use Rattle.lf_verdict.specs.declared.answer.Refusal.TheVariants as refusals
use Rattle.lf_verdict.specs.Outcome.{IsFaultOfLogs}
use Rattle.lf_verdict.specs.Parts.{HasWholeNumbers, PartsRun}
use Rattle.lf_verdict.specs.Verdict.{IsTraceVerdict}

-- the fault of the logs, or out of memory
abbrev pub IsEnding : Shape → FlatMemory → List (List Record) → Ending → Type 0
IsEnding shape memory logs (endings.Fault fault) = IsFaultOfLogs shape memory logs fault
IsEnding shape memory logs endings.NoMemory = Unit {0}

-- the verdict where the check ends so
abbrev pub ending_verdict : Ending → Verdict
ending_verdict (endings.Fault fault) = No fault
ending_verdict endings.NoMemory = Refused refusals.Memory

-- the numbers of the banks below this one are whole
abbrev pub AreWholeBelow : List (List Record) → ℕ → Type 0
AreWholeBelow logs banks = (bank : ℕ) → bank < banks → HasWholeNumbers logs bank

-- what a fault of the bank's numbers says
abbrev pub number_ending : ℕ → NumberFault → Ending
number_ending bank (numbers.Missing k) = endings.Fault (faults.Missing bank k)
number_ending bank (numbers.Double k) = endings.Fault (faults.Double bank k)
number_ending bank numbers.NoMemory = endings.NoMemory

-- ---- outcomes, one for each port or each bank

abbrev pub outcome_at : List Outcome → ℕ → Outcome
outcome_at all part = slice_index_or all part outcomes.NoMemory

abbrev pub IsBroken : Outcome → Type 0
IsBroken (outcomes.Broken at rule) = Unit {0}
IsBroken _ = ⊥

-- no part below this one is broken
abbrev pub NoneBroken : List Outcome → ℕ → Type 0
NoneBroken all parts = (part : ℕ) → part < parts → ¬ IsBroken (outcome_at all part)

pub record IsFirstBroken (all : List Outcome) (broken : BrokenPart) : Type 0 where
  pub within : broken.part < length all
  pub is : outcome_at all broken.part ≡ outcomes.Broken broken.at broken.rule
  pub before : NoneBroken all broken.part

-- ---- what is said of the logs

pub record IsOrderOf (shape : Shape) (memory : FlatMemory) (logs : List (List Record)) (order : List ℕ) : Type 0 where
  pub parts : PartsRun shape memory logs
  pub least : IsLeastOrder (skeletons_of logs) order

-- the verdict of the logs of a trace, or out of memory
abbrev pub IsLogsVerdict : Shape → FlatMemory → List (List Record) → Verdict → Type 0
IsLogsVerdict shape memory logs (Yes events order) = IsOrderOf shape memory logs order.items ×
    (events ≡ length order.items)
IsLogsVerdict shape memory logs (No fault) = IsFaultOfLogs shape memory logs fault
IsLogsVerdict shape memory logs (Refused refusals.Memory) = Unit {0}
IsLogsVerdict shape memory logs _ = ⊥

-- the verdict of the bytes, or out of memory
abbrev pub IsVerdictOrWant : Shape → List ℕ → Verdict → Type 0
IsVerdictOrWant shape bytes (Refused refusals.Memory) = Unit {0}
IsVerdictOrWant shape bytes verdict = IsTraceVerdict shape bytes verdict
