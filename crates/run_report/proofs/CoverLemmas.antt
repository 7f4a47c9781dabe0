-- From the conclusion on a trace to its coverage.
use Rattle.std.proofs.Common.{◌≡◌, ℕ, List, Result, Ok, Err, IfOk, String, string_bytes, sym, subst}
use Rattle.std.specs.Global.{Global}
use Rattle.lf_rules.specs.declared.shape.Shape.{Shape}
use Rattle.lf_rules.specs.declared.event.Record.{Record}
use Rattle.lf_verdict.specs.declared.answer.Outcome.{Outcome}
use Rattle.lf_verdict.specs.declared.answer.Outcome.TheVariants.{Yes}
use Rattle.lf_verdict.specs.Outcome.{IsDecidedOutcome, IsOutcomeOf, IsYes}
use Rattle.explain_why.specs.Logs.{IsCountable, AreListsIn}
use Rattle.count_coverage.specs.declared.coverage.Coverage.{Coverage}
use Rattle.count_coverage.specs.Coverage.{IsCoverage}
use Rattle.run_engine.specs.Asks.{IfLegal}
use Rattle.run_report.specs.declared.cover.CoverageForm.{CoverageForm}
use Rattle.run_report.specs.Cover.{IsCoverageOf, IsCovered, text_of}

-- A trace that is legal can be counted.
pub countable : (shape : Shape) (bytes : List ℕ) (events : ℕ) → IsYes shape bytes events → IsCountable shape bytes
countable shape bytes events legal = record {
  memory = legal.memory;
  logs = legal.logs;
  trace = legal.trace;
  whole = legal.ordered.parts.numbers;
}

pub covered_if : {E : Type 0} (shape : Shape) (bytes : List ℕ) (logs : List (List Record)) (r : Result Coverage E)
    → AreListsIn shape bytes logs → IfOk r (IsCoverage shape logs) → IfOk r (IsCoverageOf shape bytes)
covered_if shape bytes logs (Ok coverage) x is =
    record { memory = x.memory; logs = logs; trace = x.trace; counts = is }
covered_if shape bytes logs (Err w) x is = tt

module _ (shape : Shape) (own bytes : List ℕ) (outcome : Outcome) (events : ℕ) (is : outcome ≡ Yes events) where
  -- The bytes of a legal trace are those of the conclusion.
  pub own_bytes : (IsDecidedOutcome outcome → bytes ≡ own) → bytes ≡ own
  own_bytes same = subst (λ (o : Outcome). IsDecidedOutcome o → bytes ≡ own) is same tt

  pub legal_in : bytes ≡ own → (IsDecidedOutcome outcome → IsOutcomeOf shape own outcome) → IsYes shape bytes events
  legal_in here of =
      subst (λ (b : List ℕ). IsYes shape b events) (sym here)
      (subst (λ (o : Outcome). IsDecidedOutcome o → IsOutcomeOf shape own o) is of tt)

  pub told : {E : Type 0} (form : CoverageForm) (coverage : Coverage) (r : Result (String Global) E) → bytes ≡ own
      → IsCoverageOf shape bytes coverage → IfOk r (λ text. string_bytes text ≡ text_of form coverage)
      → IfOk r (λ text. IfLegal (IsCovered form shape own) outcome (string_bytes text))
  told form coverage (Ok text) here covered lines =
      subst (λ (o : Outcome). IfLegal (IsCovered form shape own) o (string_bytes text)) (sym is)
      (record {
        coverage = coverage;
        covered = subst (λ (b : List ℕ). IsCoverageOf shape b coverage) here covered;
        lines = lines;
      })
  told form coverage (Err e) here covered lines = tt
