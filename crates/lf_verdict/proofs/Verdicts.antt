-- The verdict that a conclusion tells.
use Rattle.std.proofs.Common.{◌≡◌, ℕ, List, Option, Some, None, ap}
use Rattle.std.specs.Prelude.{IfSome}
use Rattle.std.specs.Global.{Vec}
use Rattle.lf_rules.specs.declared.shape.Shape.{Shape}
use Rattle.lf_verdict.specs.declared.answer.Outcome.{Outcome}
use Rattle.lf_verdict.specs.declared.answer.Outcome.TheVariants.{Yes, No, Refused}
use Rattle.lf_verdict.specs.declared.answer.Refusal.{Refusal}
use Rattle.lf_verdict.specs.declared.answer.Refusal.TheVariants as refusals
use Rattle.lf_verdict.specs.declared.answer.Verdict.TheVariants as verdicts
use Rattle.lf_verdict.specs.Conclusion.{IsOrderFor, verdict_with}
use Rattle.lf_verdict.specs.Laws.{IsRunlessOutcome, IsRunlessNo}
use Rattle.lf_verdict.specs.Outcome.{IsOutcomeOf, IsDecidedOutcome}
use Rattle.lf_verdict.specs.Verdict.{IsWorkerCount, IsVerdictOf, IsDecided, IsLegalYes}

module _ (shape : Shape) (bytes : List ℕ) where
  pub with_legal : (outcome : Outcome) (order : Option (Vec ℕ)) →
      IfSome order (λ order. IsOrderFor shape bytes outcome order.items)
      → IsLegalYes shape bytes (verdict_with outcome order)
  with_legal (Yes events) (Some order) is = (is.1, is.0.count)
  with_legal (Yes events) None is = tt
  with_legal (No fault) order is = tt
  with_legal (Refused refusal) order is = tt

  pub with_runless : (outcome : Outcome) (order : Option (Vec ℕ)) → IsRunlessOutcome shape bytes outcome →
      IsRunlessNo shape bytes (verdict_with outcome order)
  with_runless (Yes events) (Some order) is = tt
  with_runless (Yes events) None is = tt
  with_runless (No fault) order is = is
  with_runless (Refused refusal) order is = tt

  refusal_verdict : (workers : ℕ) (refusal : Refusal) → IsWorkerCount workers →
      (IsDecidedOutcome (Refused refusal) → IsOutcomeOf shape bytes (Refused refusal))
      → IsDecided (verdicts.Refused refusal) → IsVerdictOf shape workers bytes (verdicts.Refused refusal)
  refusal_verdict workers (refusals.Workers n) may is on = absurd (is tt)
  refusal_verdict workers (refusals.Config fault) may is on = absurd (is tt)
  refusal_verdict workers (refusals.Format fault) may is on = (may, is tt)
  refusal_verdict workers (refusals.Header field) may is on = (may, is tt)
  refusal_verdict workers refusals.Memory may is on = absurd on
  refusal_verdict workers refusals.Thread may is on = absurd on

  pub with_verdict : (workers : ℕ) (outcome : Outcome) (order : Option (Vec ℕ)) → IsWorkerCount workers →
      (IsDecidedOutcome outcome → IsOutcomeOf shape bytes outcome)
      → IfSome order (λ order. IsOrderFor shape bytes outcome order.items) → IsDecided (verdict_with outcome order)
      → IsVerdictOf shape workers bytes (verdict_with outcome order)
  with_verdict workers (Yes events) (Some order) may is least on = (may, least.0)
  with_verdict workers (Yes events) None may is least on = absurd on
  with_verdict workers (No fault) order may is least on = (may, is tt)
  with_verdict workers (Refused refusal) order may is least on = refusal_verdict workers refusal may is on

-- a thread that was refused is told of no other outcome
pub with_thread : (outcome : Outcome) (order : Option (Vec ℕ)) →
    verdict_with outcome order ≡ verdicts.Refused refusals.Thread → outcome ≡ Refused refusals.Thread
with_thread (Yes events) (Some order) e = absurd (cc)
with_thread (Yes events) None e = absurd (cc)
with_thread (No fault) order e = absurd (cc)
with_thread (Refused refusal) order e = let one : refusal ≡ refusals.Thread = cc in ap Refused one
