-- A trace of collected logs is never out of order.
use Rattle.std.proofs.Common.{ℕ, ◌<◌, List, sym, ap, ◌∙◌, arith}
use Rattle.lf_rules.specs.declared.shape.Shape.{Shape}
use Rattle.lf_rules.specs.declared.event.Record.{Record}
use Rattle.lf_rules.specs.Address.{FlatMemory, flat_memory}
use Rattle.lf_rules.specs.CommonOrder.{HasCommonOrder, CollectedLogsAreFree}
use Rattle.lf_rules.specs.Fits.{Bytes}
use Rattle.lf_rules.specs.Order.{log_at}
use Rattle.lf_rules.specs.Run.{of_log}
use Rattle.lf_codec.specs.Laws.{BytesAreOfOneTrace}
use Rattle.lf_verdict.specs.declared.answer.Fault.{Fault}
use Rattle.lf_verdict.specs.declared.answer.Fault.TheVariants.{Missing, Double, Port, Bank, Cycle}
use Rattle.lf_verdict.specs.declared.answer.Verdict.TheVariants.{Yes, No, Refused}
use Rattle.lf_verdict.specs.Collected.{AreOfCollectedLogs, IsOutOfOrder, CollectedLogsAreInOrder}
use Rattle.lf_verdict.specs.Collected.{CollectedLogsAreInOrderFor}
use Rattle.lf_verdict.specs.Legal.{IsTraceFor}
use Rattle.lf_verdict.specs.Outcome.{IsFaultOfLogs, IsNo}
use Rattle.lf_verdict.proofs.Settled.{interleaves}
use Rattle.lf_verdict.proofs.Traces.{records_fit, trace_banks}

module _ (free : CollectedLogsAreFree) (one : BytesAreOfOneTrace) where
  -- the logs of the trace have the order of those that were collected
  common : (shape : Shape) (bytes : List ℕ) (memory : List (ℕ × Bytes)) (logs : List (List Record)) →
      AreOfCollectedLogs bytes → IsTraceFor shape bytes memory logs → HasCommonOrder logs
  common shape bytes memory logs c t =
      let same = one bytes c.header t.header c.memory memory c.records t.records c.written t.trace in
      let held = interleaves shape t.records (records_fit shape t.header memory t.records t.trace.fits t.agrees) in
      record {
        all = c.common_order.all;
        interleaves = record {
          each = λ log. c.common_order.interleaves.each log ∙ sym (c.mixture.each log) ∙ ap (of_log log) same.2
              ∙ held.each log ∙ ap (λ (ls : List (List Record)). log_at ls log) (sym t.are_logs);
        };
        numbers = c.common_order.numbers;
      }

  free_of : (shape : Shape) (memory : FlatMemory) (logs : List (List Record)) (fault : Fault) → shape.banks < 255 →
      HasCommonOrder logs
      → IsFaultOfLogs shape memory logs fault → ¬ IsOutOfOrder (No fault)
  free_of shape memory logs (Missing bank k) few order is _ =
      (free logs order).none_missing bank k (omega (arith, is.0.is_bank, few)) is.1
  free_of shape memory logs (Double bank k) few order is _ =
      (free logs order).none_double bank k (omega (arith, is.0.is_bank, few)) is.1
  free_of shape memory logs (Port port at rule) few order is out = out
  free_of shape memory logs (Bank bank number rule) few order is out = out
  free_of shape memory logs (Cycle ring) few order is _ = (free logs order).no_ring ring.items is.waits

  of_no : (shape : Shape) (bytes : List ℕ) (fault : Fault) → AreOfCollectedLogs bytes → IsNo shape bytes fault →
      ¬ IsOutOfOrder (No fault)
  of_no shape bytes fault c is =
      free_of shape (flat_memory is.memory) is.logs fault (omega
      (arith, trace_banks shape bytes is.memory is.logs is.trace))
      (common shape bytes is.memory is.logs c is.trace) is.fault_of

  pub in_order : CollectedLogsAreInOrder
  in_order shape workers bytes (Yes events order) c is out = out
  in_order shape workers bytes (No fault) c is out = of_no shape bytes fault c is.1 out
  in_order shape workers bytes (Refused refusal) c is out = out

  pub in_order_for : CollectedLogsAreInOrderFor
  in_order_for text workers bytes (Yes events order) c is out = out
  in_order_for text workers bytes (No fault) c is out = of_no is.1.shape bytes fault c is.1.verdict out
  in_order_for text workers bytes (Refused refusal) c is out = out
