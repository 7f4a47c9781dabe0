-- What a session answers once all that came is judged.
use Rattle.std.specs.Prelude.{◌≡◌, true, false, ℕ, List, length, Option, None, IsSome, IfSome, IfNone}
use Rattle.std.specs.Global.{Vec}
use Rattle.lf_rules.specs.declared.shape.Shape.{Shape}
use Rattle.lf_rules.specs.declared.event.Record.{Record}
use Rattle.lf_rules.specs.Address.{FlatMemory}
use Rattle.lf_rules.specs.Order.{IsLeastOrder}
use Rattle.lf_rules.specs.Ring.{skeletons_of}
use Rattle.lf_logs.specs.declared.incomplete.Incomplete.{Incomplete}
use Rattle.lf_logs.specs.Incomplete.{IsFirstIncomplete}
use Rattle.lf_stats.specs.Answer.{AreStats}
use Rattle.lf_verdict.specs.declared.answer.Outcome.{Outcome}
use Rattle.lf_verdict.specs.declared.answer.Outcome.TheVariants.{Yes, No, Refused}
use Rattle.lf_verdict.specs.declared.answer.Refusal.TheVariants as refusals
use Rattle.lf_verdict.specs.declared.early_end.Ending.{Ending}
use Rattle.lf_verdict.specs.declared.early_end.Ending.TheVariants as endings
use Rattle.lf_verdict.specs.declared.session.asked.Asked.{Asked}
use Rattle.lf_verdict.specs.declared.session.breaking.Broken.{Broken}
use Rattle.lf_verdict.specs.declared.session.standing.verdict.Judged.{Judged}
use Rattle.lf_verdict.specs.declared.stop.Stop.{Stop}
use Rattle.lf_verdict.specs.Final.{IsFinal, IsEarliest}
use Rattle.lf_verdict.specs.Incomplete.{IsIncompleteFor}
use Rattle.lf_verdict.specs.Named.{IsNamed, NoneBrokeSoFar}
use Rattle.lf_verdict.specs.Outcome.{IsFaultOfLogs, HasOrder, IsOutcomeOf, IsYesOutcome}
use Rattle.lf_verdict.specs.Session.{CanTell}
use Rattle.lf_verdict.specs.Statistics.{AreStatisticsOf}
use Rattle.lf_verdict.specs.Verdict.{IsLeastYes}

-- the outcome where the check ends so
abbrev pub ending_outcome : Ending → Outcome
ending_outcome (endings.Fault fault) = No fault
ending_outcome endings.NoMemory = Refused refusals.Memory

-- So many events of the logs have an order, and the order that is told is the least.
pub record IsInOrder (shape : Shape) (memory : FlatMemory) (logs : List (List Record)) (events : ℕ)
    (order : Option (Vec ℕ)) : Type 0 where
  pub has : HasOrder shape memory logs events
  pub least : IfSome order (λ order. IsLeastOrder (skeletons_of logs) order.items × (events ≡ length order.items))

-- the outcome of the logs of a trace, or out of memory
abbrev pub IsLogsOutcome : Shape → FlatMemory → List (List Record) → Outcome → Type 0
IsLogsOutcome shape memory logs (Yes events) = HasOrder shape memory logs events
IsLogsOutcome shape memory logs (No fault) = IsFaultOfLogs shape memory logs fault
IsLogsOutcome shape memory logs (Refused refusals.Memory) = Unit {0}
IsLogsOutcome shape memory logs _ = ⊥

-- the least order of the logs, after a yes alone
abbrev pub IsLogsOrder : List (List Record) → Outcome → List ℕ → Type 0
IsLogsOrder logs (Yes events) order = IsLeastOrder (skeletons_of logs) order × (events ≡ length order)
IsLogsOrder logs _ order = ⊥

-- the first request of the logs that has no reply, after a yes alone
abbrev pub IsLogsIncomplete : Shape → List (List Record) → Outcome → Option Incomplete → Type 0
IsLogsIncomplete shape logs (Yes events) found = IsFirstIncomplete shape.ports logs found
IsLogsIncomplete shape logs outcome found = found ≡ None

-- What is answered of the logs of a trace.
pub record IsLogsJudged (shape : Shape) (memory : FlatMemory) (logs : List (List Record)) (judged : Judged) :
    Type 0 where
  pub outcome : IsLogsOutcome shape memory logs judged.outcome
  pub order : IfSome judged.order (λ order. IsLogsOrder logs judged.outcome order.items)
  pub incomplete : IsLogsIncomplete shape logs judged.outcome judged.incomplete
  pub statistics : IfSome judged.statistics (AreStats shape logs)
  pub after_yes : IsSome judged.statistics → IsYesOutcome judged.outcome

-- the outcome of the bytes, or out of memory
abbrev pub IsOutcomeOrWant : Shape → List ℕ → Outcome → Type 0
IsOutcomeOrWant shape bytes (Refused refusals.Memory) = Unit {0}
IsOutcomeOrWant shape bytes outcome = IsOutcomeOf shape bytes outcome

-- the least order of the bytes, after a yes alone
abbrev pub IsLeastFor : Shape → List ℕ → Outcome → List ℕ → Type 0
IsLeastFor shape bytes (Yes events) order = IsLeastYes shape bytes events order
IsLeastFor shape bytes _ order = ⊥

-- What is answered of the bytes.
pub record IsJudged (shape : Shape) (bytes : List ℕ) (judged : Judged) : Type 0 where
  pub outcome : IsOutcomeOrWant shape bytes judged.outcome
  pub order : IfSome judged.order (λ order. IsLeastFor shape bytes judged.outcome order.items)
  pub incomplete : IsIncompleteFor shape bytes judged.outcome judged.incomplete
  pub statistics : IfSome judged.statistics (AreStatisticsOf shape bytes)
  pub after_yes : IsSome judged.statistics → IsYesOutcome judged.outcome

-- What broke first in the bytes, where that is asked for and this stop lets the session tell it.
pub record TellsFirst (asked : Asked) (shape : Shape) (bytes : List ℕ) (stop : Option Stop) (found : Option Broken) :
    Type 0 where
  pub final : IfSome found (IsFinal shape bytes)
  pub earliest : IfSome found (IsEarliest shape bytes)
  pub none : asked.watched ≡ true → CanTell asked stop → IfNone found (NoneBrokeSoFar shape bytes)

-- What broke in the bytes, where this stop lets the session tell it. Where that is asked for it is what broke first.
pub record IsFound (asked : Asked) (shape : Shape) (bytes : List ℕ) (stop : Option Stop) (found : Option Broken) :
    Type 0 where
  pub final : IfSome found (IsFinal shape bytes)
  pub earliest : asked.watched ≡ true → IfSome found (IsEarliest shape bytes)
  pub named : asked.watched ≡ false → IfSome found (IsNamed shape bytes)
  pub none : CanTell asked stop → IfNone found (NoneBrokeSoFar shape bytes)
