-- Traces of logs that were recorded together.
use Rattle.std.specs.Prelude.{ℕ, List}
use Rattle.lf_rules.specs.declared.shape.Shape.{Shape}
use Rattle.lf_rules.specs.declared.event.Record.{Record}
use Rattle.lf_rules.specs.CommonOrder.{HasCommonOrder}
use Rattle.lf_rules.specs.Fits.{Bytes}
use Rattle.lf_rules.specs.Run.{Interleaves}
use Rattle.lf_codec.specs.declared.header.Header.{Header}
use Rattle.lf_codec.specs.Trace.{IsTrace}
use Rattle.lf_verdict.specs.declared.answer.Fault.TheVariants.{Missing, Double, Cycle}
use Rattle.lf_verdict.specs.declared.answer.Verdict.{Verdict}
use Rattle.lf_verdict.specs.declared.answer.Verdict.TheVariants.{No}
use Rattle.lf_verdict.specs.Configured.{IsVerdictFor}
use Rattle.lf_verdict.specs.Verdict.{IsVerdictOf}

-- The bytes are the trace of logs with a common order, written in some mixture that keeps each log's order.
pub record AreOfCollectedLogs (bytes : List ℕ) : Type 0 where
  pub logs : List (List Record)
  pub common_order : HasCommonOrder logs
  pub header : Header
  pub memory : List (ℕ × Bytes)
  pub records : List Record
  pub mixture : Interleaves logs records
  pub written : IsTrace bytes header memory records

-- A bank's number is missing or double, or logs wait for one another.
abbrev pub IsOutOfOrder : Verdict → Type 0
IsOutOfOrder (No (Missing bank k)) = Unit {0}
IsOutOfOrder (No (Double bank k)) = Unit {0}
IsOutOfOrder (No (Cycle ring)) = Unit {0}
IsOutOfOrder _ = ⊥

-- That is never the verdict of collected logs,
abbrev pub CollectedLogsAreInOrder : Type 0
CollectedLogsAreInOrder = (shape : Shape) (workers : ℕ) (bytes : List ℕ) (verdict : Verdict) → AreOfCollectedLogs bytes
    → IsVerdictOf shape workers bytes verdict → ¬ IsOutOfOrder verdict

-- nor for the hierarchy that a text says.
abbrev pub CollectedLogsAreInOrderFor : Type 0
CollectedLogsAreInOrderFor = (text : List ℕ) (workers : ℕ) (bytes : List ℕ) (verdict : Verdict) →
    AreOfCollectedLogs bytes
    → IsVerdictFor text workers bytes verdict → ¬ IsOutOfOrder verdict
