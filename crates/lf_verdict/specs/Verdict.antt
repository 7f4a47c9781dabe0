-- Which verdict a trace has: its outcome, and after a yes the least order.
use Rattle.std.specs.Prelude.{◌≡◌, ℕ, List, length}
use Rattle.lf_rules.specs.declared.shape.Shape.{Shape}
use Rattle.lf_rules.specs.Order.{IsLeastOrder}
use Rattle.lf_rules.specs.Ring.{skeletons_of}
pub use Rattle.lf_pool.specs.Workers.{IsWorkerCount}
use Rattle.lf_verdict.specs.declared.answer.Outcome.{Outcome}
use Rattle.lf_verdict.specs.declared.answer.Outcome.TheVariants as outcomes
use Rattle.lf_verdict.specs.declared.answer.Verdict.{Verdict}
use Rattle.lf_verdict.specs.declared.answer.Verdict.TheVariants.{Yes, No, Refused}
use Rattle.lf_verdict.specs.declared.answer.Refusal.TheVariants as refusals
use Rattle.lf_verdict.specs.Legal.{IsLegal}
use Rattle.lf_verdict.specs.Outcome.{IsOutcomeOf, IsYes}

-- the outcome that a verdict tells
abbrev pub outcome_of : Verdict → Outcome
outcome_of (Yes events order) = outcomes.Yes events
outcome_of (No fault) = outcomes.No fault
outcome_of (Refused refusal) = outcomes.Refused refusal

-- The order is the least of a yes, and has as many places as it counts events.
pub record IsLeastYes (shape : Shape) (bytes : List ℕ) (events : ℕ) (order : List ℕ) : Type 0 where
  pub yes : IsYes shape bytes events
  pub least : IsLeastOrder (skeletons_of yes.logs) order
  pub count : events ≡ length order

abbrev pub IsTraceVerdict : Shape → List ℕ → Verdict → Type 0
IsTraceVerdict shape bytes (Yes events order) = IsLeastYes shape bytes events order.items
IsTraceVerdict shape bytes verdict = IsOutcomeOf shape bytes (outcome_of verdict)

-- The verdict of the bytes for the shape, with so many workers. Out of memory is never one, nor is a thread that was
-- refused.
abbrev pub IsVerdictOf : Shape → ℕ → List ℕ → Verdict → Type 0
IsVerdictOf shape workers bytes (Refused (refusals.Workers n)) = (n ≡ workers) × ¬ IsWorkerCount workers
IsVerdictOf shape workers bytes verdict = IsWorkerCount workers × IsTraceVerdict shape bytes verdict

-- memory did not run out, and no thread was refused
abbrev pub IsDecided : Verdict → Type 0
IsDecided (Refused refusals.Memory) = ⊥
IsDecided (Refused refusals.Thread) = ⊥
IsDecided _ = Unit {0}

-- a yes is legal by its order, and counts its events
abbrev pub IsLegalYes : Shape → List ℕ → Verdict → Type 0
IsLegalYes shape bytes (Yes events order) = IsLegal shape bytes order.items × (events ≡ length order.items)
IsLegalYes shape bytes _ = Unit {0}
