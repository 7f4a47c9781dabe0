-- How the logs of a whole trace are judged by several workers.
use Rattle.std.specs.Prelude.{◌≡◌, ℕ, ◌<◌, List, length}
use Rattle.std.specs.List.{AllByRecursion}
use Rattle.lf_rules.specs.declared.shape.Shape.{Shape}
use Rattle.lf_rules.specs.declared.event.Record.{Record}
use Rattle.lf_rules.specs.declared.outcome.Outcome.{Outcome}
use Rattle.lf_rules.specs.declared.outcome.Outcome.TheVariants as outcomes
use Rattle.lf_rules.specs.Address.{FlatMemory, flat_memory, no_bank}
use Rattle.lf_rules.specs.Fits.{Fits}
use Rattle.lf_rules.specs.Order.{log_at}
use Rattle.lf_rules.specs.Ring.{IsRing}
use Rattle.lf_join.specs.Join.{IsStuckRing}
use Rattle.lf_logs.specs.declared.order.Place.{Place}
use Rattle.lf_rules.specs.Lists.{lists_of}
use Rattle.lf_logs.specs.Places.{ArePlacesOfBank}
use Rattle.lf_pool.specs.declared.job.Jobs.{Jobs}
use Rattle.lf_pool.specs.Job.{AreJobs}
use Rattle.lf_verdict.specs.declared.answer.Fault.TheVariants as faults
use Rattle.lf_verdict.specs.declared.answer.Refusal.TheVariants as refusals
use Rattle.lf_verdict.specs.declared.answer.Verdict.{Verdict}
use Rattle.lf_verdict.specs.declared.answer.Verdict.TheVariants.{Refused}
use Rattle.lf_verdict.specs.declared.early_end.Ending.{Ending}
use Rattle.lf_verdict.specs.declared.early_end.Ending.TheVariants as endings
use Rattle.lf_verdict.specs.inner.Ending.{AreWholeBelow, IsLogsVerdict, IsVerdictOrWant, outcome_at}
use Rattle.lf_verdict.specs.Parts.{HasWholeNumbers}

-- each log's records fit the shape
abbrev pub LogsFit : Shape → List (List Record) → Type 0
LogsFit shape logs = (log : ℕ) → AllByRecursion (Fits shape) (log_at logs log)

-- for each bank the places of its records, in the order of their numbers
pub record AreOrders (logs : List (List Record)) (banks : ℕ) (orders : List (List Place)) : Type 0 where
  pub count : length orders ≡ banks
  pub each : (bank : ℕ) → bank < banks → ArePlacesOfBank logs bank (log_at orders bank)

-- what there is to do for these logs, whose banks' numbers are whole
pub record AreJobsOf (shape : Shape) (memory : FlatMemory) (logs : List (List Record)) (jobs : Jobs) : Type 0 where
  pub same : ◌≡◌ {A = Shape × (FlatMemory × List (List Record))}
      (jobs.shape, (flat_memory jobs.memory.items, lists_of jobs.logs)) (shape, (memory, logs))
  pub ready : AreJobs jobs
  pub whole : AreWholeBelow (lists_of jobs.logs) jobs.shape.banks

-- none below this part ran out of memory
abbrev pub NoneRanOut : List Outcome → ℕ → Type 0
NoneRanOut all parts = (part : ℕ) → part < parts → ¬ (outcome_at all part ≡ outcomes.NoMemory)

-- ---- the order

-- each bank's numbers are whole, however great the bank's number is; records that name no bank have none
abbrev pub AllAreWhole : List (List Record) → Type 0
AllAreWhole logs = (bank : ℕ) → bank < no_bank → HasWholeNumbers logs bank

-- the logs that wait for one another, or out of memory
abbrev pub IsOrderEnding : List (List (ℕ × ℕ)) → Ending → Type 0
IsOrderEnding skeletons (endings.Fault (faults.Cycle ring)) = IsStuckRing skeletons ring.items ×
    IsRing skeletons ring.items
IsOrderEnding skeletons endings.NoMemory = Unit {0}
IsOrderEnding skeletons _ = ⊥

-- ---- what several workers answer: the same as one, or that a thread was refused

abbrev pub IsWorkersVerdict : Shape → FlatMemory → List (List Record) → Verdict → Type 0
IsWorkersVerdict shape memory logs (Refused refusals.Thread) = Unit {0}
IsWorkersVerdict shape memory logs verdict = IsLogsVerdict shape memory logs verdict

abbrev pub IsWorkersAnswer : Shape → List ℕ → Verdict → Type 0
IsWorkersAnswer shape bytes (Refused refusals.Thread) = Unit {0}
IsWorkersAnswer shape bytes verdict = IsVerdictOrWant shape bytes verdict
