-- What a worker gives back.
use Rattle.std.specs.Prelude.{◌≡◌, ◌≤◌, ◌<◌, ℕ, List, [], ◌∷◌, ◌++◌, map, All, Option, Some, None, IfSome, slice_set}
use Rattle.atomic_table.specs.Seated.{TableId}
use Rattle.lf_pool.specs.declared.job.Jobs.{Jobs}
use Rattle.lf_rules.specs.declared.outcome.Outcome.{Outcome}
use Rattle.lf_pool.specs.declared.worker.Claimer.{Claimer}
use Rattle.lf_pool.specs.declared.worker.Worked.{Worked}
use Rattle.lf_pool.specs.declared.rule.View.TheVariants.{Worker}
use Rattle.lf_pool.specs.Job.{count_of}

abbrev pub number_of : ℕ × Outcome → ℕ
number_of p = p.0

abbrev pub and_last : List ℕ → Option ℕ → List ℕ
and_last xs None = xs
and_last xs (Some x) = xs ++ x ∷ []

-- the numbers that the worker claimed
abbrev pub claims_of : Worked → List ℕ
claims_of r = and_last (map number_of r.done.items) r.last

-- a seat that has claimed nothing
abbrev pub IsClaimer : TableId → Claimer → Type 0
IsClaimer table c = (c.seat.table_id ≡ table) × (c.seat.me ≡ (Worker c.number [], []))

-- a job's number with an outcome that its replay may give
abbrev pub IsDone : (Jobs → ℕ → Outcome → Type 0) → Jobs → ℕ × Outcome → Type 0
IsDone MayGive jobs p = (p.0 < count_of jobs) × MayGive jobs p.0 p.1

-- what a worker did, by its seat's view
pub record IsWorked (MayGive : Jobs → ℕ → Outcome → Type 0) (jobs : Jobs) (table : TableId) (r : Worked) : Type 0 where
  pub own : r.seat.table_id ≡ table
  pub view : r.seat.me ≡ (Worker r.number (claims_of r), [])
  pub last : IfSome r.last (λ x. count_of jobs ≤ x)
  pub done : All (IsDone MayGive jobs) r.done.items

-- what the pool knows of a worker that it took in
abbrev pub entry_of : Worked → ℕ × List ℕ
entry_of r = (r.number, claims_of r)

-- the outcomes, with each of these at its number
abbrev pub put_all : List (Option Outcome) → List (ℕ × Outcome) → List (Option Outcome)
put_all slots [] = slots
put_all slots (p ∷ ps) = put_all (slice_set slots p.0 (Some p.1)) ps

abbrev pub put_each : List (Option Outcome) → List Worked → List (Option Outcome)
put_each slots [] = slots
put_each slots (r ∷ rs) = put_each (put_all slots r.done.items) rs
