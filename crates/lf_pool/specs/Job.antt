-- The jobs, and what the outcome of each is.
use Rattle.std.specs.Prelude.{◌≡◌, ◌≢◌, ℕ, ◌+◌, ◌<◌, ◌≤◌, ◌^◌, List, length, slice_index_or}
use Rattle.std.specs.List.{All, AllByRecursion}
use Rattle.lf_rules.specs.declared.event.Record.{Record}
use Rattle.lf_rules.specs.declared.outcome.Outcome.{Outcome}
use Rattle.lf_rules.specs.declared.outcome.Outcome.TheVariants.{NoMemory}
use Rattle.lf_rules.specs.Address.{flat_memory}
use Rattle.lf_rules.specs.Fits.{Fits}
use Rattle.lf_rules.specs.InRange.{IsShape}
use Rattle.lf_rules.specs.Order.{log_at}
use Rattle.lf_rules.specs.Outcomes.{IsPortOutcome, IsBankOutcome}
use Rattle.lf_logs.specs.declared.order.Place.{Place}
use Rattle.lf_rules.specs.Lists.{lists_of}
use Rattle.lf_logs.specs.Places.{records_at, ArePlacesOfBank}
use Rattle.lf_pool.specs.declared.job.Jobs.{Jobs}

-- one for each port and one for each bank
abbrev pub count_of : Jobs → ℕ
count_of jobs = jobs.shape.ports + jobs.shape.banks

abbrev pub places_of : Jobs → ℕ → List Place
places_of jobs bank = log_at (lists_of jobs.orders) bank

-- the records at the places that are handed in for the bank
abbrev pub records_of : Jobs → ℕ → List Record
records_of jobs bank = records_at (lists_of jobs.logs) (places_of jobs bank)

-- the logs of the shape, whose records fit, and for each bank the order of its records
pub record AreJobs (jobs : Jobs) : Type 0 where
  pub shape : IsShape jobs.shape
  pub logs : length jobs.logs.items ≡ jobs.shape.ports + jobs.shape.banks
  pub short : All (λ log. length log.items ≤ 2 ^ 24) jobs.logs.items
  pub fit : (log : ℕ) → AllByRecursion (Fits jobs.shape) (log_at (lists_of jobs.logs) log)
  pub orders : length jobs.orders.items ≡ jobs.shape.banks
  pub ordered : (bank : ℕ) → bank < jobs.shape.banks → ArePlacesOfBank (lists_of jobs.logs) bank (places_of jobs bank)

-- The job's outcome is that of its port's log, whose replay takes no memory, or of its bank's records, whose replay
-- may run
-- out of memory.
pub record IsJobOutcome (jobs : Jobs) (job : ℕ) (outcome : Outcome) : Type 0 where
  pub port : job < jobs.shape.ports → IsPortOutcome jobs.shape (log_at (lists_of jobs.logs) job) outcome
  pub port_memory : job < jobs.shape.ports → outcome ≢ NoMemory
  pub bank : (bank : ℕ) → job ≡ jobs.shape.ports + bank → IsBankOutcome jobs.shape (flat_memory jobs.memory.items)
      (records_of jobs bank) outcome

-- an outcome for each job, each one that the replay of its own job may give
pub record AreOutcomesBy (MayGive : Jobs → ℕ → Outcome → Type 0) (jobs : Jobs) (outcomes : List Outcome) : Type 0 where
  pub count : length outcomes ≡ count_of jobs
  pub each : (job : ℕ) → job < count_of jobs → MayGive jobs job (slice_index_or outcomes job NoMemory)

abbrev pub AreJobOutcomes : Jobs → List Outcome → Type 0
AreJobOutcomes jobs outcomes = AreOutcomesBy IsJobOutcome jobs outcomes
