-- The plain machine accepts the order of a yes.
use Rattle.std.proofs.Common.{◌≡◌, ℕ, ◌+◌, List, sym, ap, ◌∙◌, subst}
use Rattle.lf_rules.specs.declared.shape.Shape.{Shape}
use Rattle.lf_rules.specs.declared.event.Record.{Record}
use Rattle.lf_model.specs.declared.outcome.Recheck.TheVariants.{Accepted}
use Rattle.lf_rules.specs.Address.{flat_memory}
use Rattle.lf_rules.specs.Fits.{Bytes}
use Rattle.lf_rules.specs.Order.{OrdersInterleave}
use Rattle.lf_model.specs.Recheck.{IsNamedRun, IsRecheck, RechecksAreOne}
use Rattle.lf_codec.specs.Laws.{BytesAreOfOneTrace}
use Rattle.lf_logs.specs.Lists.{logs_of}
use Rattle.lf_verdict.specs.Laws.{YesIsLegal}
use Rattle.lf_verdict.specs.Legal.{IsTraceFor, IsLegal}
use Rattle.model_rechecked.specs.Rechecked.{YesIsRechecked}
use Rattle.lf_verdict.proofs.Traces.{trace_names}

module _ (legal : YesIsLegal) (interleave : OrdersInterleave) (one_answer : RechecksAreOne)
    (one_trace : BytesAreOfOneTrace) where
  -- the order of a legal trace names a run of its logs
  named_run : (shape : Shape) (bytes order : List ℕ) (memory : List (ℕ × Bytes)) (logs : List (List Record)) →
      IsLegal shape bytes order → IsTraceFor shape bytes memory logs
      → IsNamedRun shape (flat_memory memory) logs order
  named_run shape bytes order memory logs l t =
      let same = one_trace bytes l.trace.header t.header l.memory memory l.trace.records t.records l.trace.trace
      t.trace in
      let logs_are : l.logs ≡ logs = l.trace.are_logs ∙ ap (logs_of (shape.ports + shape.banks)) same.2
      ∙ sym t.are_logs in
      let named = (interleave l.logs order l.interleaving (trace_names shape bytes l.memory l.logs l.trace)).0 l.named
      in
      let own : IsNamedRun shape (flat_memory l.memory) l.logs order = record {
        records = l.interleaving;
        named = named.1;
        interleaves = l.own_order;
        numbers = l.numbers;
        run = l.run;
      } in
      subst (λ (m : List (ℕ × Bytes)). IsNamedRun shape (flat_memory m) logs order) same.1
      (subst (λ (ls : List (List Record)). IsNamedRun shape (flat_memory l.memory) ls order) logs_are own)

  pub yes_is_rechecked : YesIsRechecked
  yes_is_rechecked shape bytes events order is memory logs t answer =
      let one = is.yes in
      let legal_by = legal shape bytes order one.memory one.logs one.trace one.ordered.parts is.least.is_order in
      let accepted : IsRecheck shape (flat_memory memory) logs order Accepted =
      named_run shape bytes order memory logs legal_by t in (
        λ answered. one_answer shape (flat_memory memory) logs order answer Accepted
            (trace_names shape bytes memory logs t) answered accepted,
        λ e. subst (IsRecheck shape (flat_memory memory) logs order) (sym e) accepted,
      )
