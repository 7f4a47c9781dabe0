-- What a session answers when it ends.
use Rattle.std.specs.Prelude.{◌≡◌, ℕ, List, length, true, Option, Some, None, IsSome, IfSome, IfNone}
use Rattle.std.specs.Global.{Vec}
use Rattle.lf_verdict.specs.declared.fed.Fed.{Fed}
use Rattle.lf_rules.specs.declared.shape.Shape.{Shape}
use Rattle.lf_verdict.specs.declared.answer.Outcome.{Outcome}
use Rattle.lf_verdict.specs.declared.answer.Outcome.TheVariants.{Yes, No, Refused}
use Rattle.lf_verdict.specs.declared.answer.Refusal.{Refusal}
use Rattle.lf_verdict.specs.declared.answer.Refusal.TheVariants as refusals
use Rattle.lf_verdict.specs.declared.answer.Verdict.{Verdict}
use Rattle.lf_verdict.specs.declared.answer.Verdict.TheVariants as verdicts
use Rattle.lf_verdict.specs.declared.session.asked.Asked.{Asked}
use Rattle.lf_verdict.specs.declared.session.breaking.Broken.{Broken}
use Rattle.lf_verdict.specs.declared.session.conclusion.Conclusion.{Conclusion}
use Rattle.lf_verdict.specs.Final.{IsFinal, IsEarliest, NoneBrokeInTrace}
use Rattle.lf_verdict.specs.Incomplete.{IsIncompleteFor}
use Rattle.lf_verdict.specs.Laws.{IsRunlessOutcome}
use Rattle.lf_verdict.specs.Legal.{IsLegal}
use Rattle.lf_verdict.specs.Named.{NoneBrokeSoFar}
use Rattle.lf_verdict.specs.Outcome.{IsOutcomeOf, IsDecidedOutcome, IsYesOutcome}
use Rattle.lf_verdict.specs.Statistics.{AreStatisticsOf}
use Rattle.lf_verdict.specs.Verdict.{IsLeastYes}

-- the conclusion of a refusal, where this broke before
abbrev pub refused_after : Option Broken → Fed → Refusal → Conclusion
refused_after broken fed refusal = record {
  fed = fed;
  outcome = Refused refusal;
  order = None;
  broken = broken;
  incomplete = None;
  statistics = None;
}

-- ... and where nothing did
abbrev pub refused : Fed → Refusal → Conclusion
refused = refused_after None

-- where memory ran out
abbrev pub without_memory : Fed → Conclusion
without_memory fed = refused fed refusals.Memory

-- the verdict of the outcome, with this order after a yes; where a yes has none, that is told as out of memory
abbrev pub verdict_with : Outcome → Option (Vec ℕ) → Verdict
verdict_with (Yes events) (Some order) = verdicts.Yes events order
verdict_with (Yes events) None = verdicts.Refused refusals.Memory
verdict_with (No fault) order = verdicts.No fault
verdict_with (Refused refusal) order = verdicts.Refused refusal

-- the verdict of a conclusion whose order was asked for
abbrev pub verdict_of : Conclusion → Verdict
verdict_of c = verdict_with c.outcome c.order

-- A yes is legal by some order, and counts its events.
abbrev pub IsLegalOutcome : Shape → List ℕ → Outcome → Type 0
IsLegalOutcome shape bytes (Yes events) = (order : List ℕ) × (IsLegal shape bytes order × (events ≡ length order))
IsLegalOutcome shape bytes _ = Unit {0}

-- An order is told after a yes alone. The trace is legal by it, and it is the least.
abbrev pub IsOrderFor : Shape → List ℕ → Outcome → List ℕ → Type 0
IsOrderFor shape bytes (Yes events) order = IsLeastYes shape bytes events order × IsLegal shape bytes order
IsOrderFor shape bytes _ order = ⊥

-- What is answered of the bytes to what was asked.
pub record IsConclusion (asked : Asked) (shape : Shape) (c : Conclusion) : Type 0 where
  pub outcome : IsDecidedOutcome c.outcome → IsOutcomeOf shape c.fed.bytes c.outcome
  pub legal : IsLegalOutcome shape c.fed.bytes c.outcome
  pub runless : IsRunlessOutcome shape c.fed.bytes c.outcome
  pub thread : ¬ (c.outcome ≡ Refused refusals.Thread)
  pub order : IfSome c.order (λ order. IsOrderFor shape c.fed.bytes c.outcome order.items)
  pub ordered : asked.ordered ≡ true → IsYesOutcome c.outcome → IsSome c.order
  -- what broke first
  pub broken : IfSome c.broken (IsFinal shape c.fed.bytes)
  pub earliest : IfSome c.broken (IsEarliest shape c.fed.bytes)
  pub none : IsDecidedOutcome c.outcome → asked.watched ≡ true → IfNone c.broken (NoneBrokeInTrace shape c.fed.bytes)
  pub none_so_far : IsDecidedOutcome c.outcome → asked.watched ≡ true →
      IfNone c.broken (NoneBrokeSoFar shape c.fed.bytes)
  pub incomplete : IsIncompleteFor shape c.fed.bytes c.outcome c.incomplete
  -- the statistics, which are told after a yes alone
  pub statistics : IfSome c.statistics (AreStatisticsOf shape c.fed.bytes)
  pub after_yes : IsSome c.statistics → IsYesOutcome c.outcome
  pub counted : asked.counted ≡ true → IsYesOutcome c.outcome → IsSome c.statistics
