-- A no admits no run.
use Rattle.std.proofs.Common.{◌≡◌, ℕ, ◌+◌, ◌≤◌, List, sym, ◌∙◌, ap, subst, inl, inr, arith}
use Rattle.std.specs.List.{AllByRecursion}
use Rattle.lf_rules.specs.declared.shape.Shape.{Shape}
use Rattle.lf_rules.specs.declared.event.Record.{Record}
use Rattle.lf_rules.specs.declared.rule.Rule.{Rule}
use Rattle.lf_rules.specs.declared.outcome.Outcome.TheVariants as outcomes
use Rattle.lf_rules.specs.Address.{FlatMemory, flat_memory}
use Rattle.lf_rules.specs.Fits.{Bytes, Fits}
use Rattle.lf_rules.specs.Laws.{CopyRunsAreRuns}
use Rattle.lf_rules.specs.Numbers.{InterleavingsAreNumbered, InterleavingsFit, NumberedIsOne, GapsAdmitNone}
use Rattle.lf_rules.specs.Order.{log_at}
use Rattle.lf_rules.specs.Outcomes.{OutcomesAreOne, first_local}
use Rattle.lf_rules.specs.Ring.{RingsAdmitNone}
use Rattle.lf_rules.specs.Run.{RunsByParts, of_bank, IsRun, IsRunOf, BreaksAt}
use Rattle.lf_rules.specs.Table.{Side, OfPort, OfBank}
use Rattle.lf_codec.specs.Laws.{BytesAreOfOneTrace}
use Rattle.lf_logs.specs.Lists.{logs_of}
use Rattle.lf_verdict.specs.declared.answer.Fault.{Fault}
use Rattle.lf_verdict.specs.declared.answer.Fault.TheVariants.{Missing, Double, Port, Bank, Cycle}
use Rattle.lf_verdict.specs.Legal.{IsTraceFor}
use Rattle.lf_verdict.specs.Laws.{IsRecorded, NoHasNoRun}
use Rattle.lf_verdict.specs.Outcome.{IsFaultOfLogs}
use Rattle.lf_verdict.proofs.Traces.{trace_fits, trace_banks, trace_factor}

-- the laws that a no rests on
pub record Laws : Type 0 where
  pub parts : RunsByParts
  pub copies : CopyRunsAreRuns
  pub fit : InterleavingsFit
  pub numbered : InterleavingsAreNumbered
  pub one_list : NumberedIsOne
  pub one_outcome : OutcomesAreOne
  pub gaps : GapsAdmitNone
  pub rings : RingsAdmitNone
  pub one_trace : BytesAreOfOneTrace

-- a list that breaks is no run
breaks_or_runs : OutcomesAreOne → (side : Side) (shape : Shape) (memory : FlatMemory) (rs : List Record) (n : ℕ)
    (rule : Rule) → BreaksAt side shape (first_local memory) rs n rule
    → IsRunOf side shape (first_local memory) rs → ⊥
breaks_or_runs one side shape memory rs n rule breaks runs =
    let same = one side shape memory rs outcomes.Passed (outcomes.Broken n rule) runs breaks (λ e. cc) (λ e. cc) in cc

no_run : Laws → (shape : Shape) (memory : FlatMemory) (logs : List (List Record)) (fault : Fault) → shape.banks ≤ 16 →
    IsFaultOfLogs shape memory logs fault
    → (rs : List Record) → IsRecorded logs rs → AllByRecursion (Fits shape) rs → IsRun shape memory rs → ⊥
no_run laws shape memory logs (Missing bank k) few is rs recorded fits run =
    laws.gaps logs bank k (omega (arith, few, is.0.is_bank)) (inl is.1) rs recorded.own_order recorded.numbers
no_run laws shape memory logs (Double bank k) few is rs recorded fits run =
    laws.gaps logs bank k (omega (arith, few, is.0.is_bank)) (inr is.1) rs recorded.own_order recorded.numbers
no_run laws shape memory logs (Port port at rule) few is rs recorded fits run =
    breaks_or_runs laws.one_outcome OfPort shape memory (log_at logs port) at rule is.breaks
    (subst (IsRunOf OfPort shape (first_local memory)) (recorded.own_order.each port)
    (((laws.parts shape memory rs fits).0 run).1 port is.is_port))
no_run laws shape memory logs (Bank bank number rule) few is rs recorded fits run =
    let same = laws.one_list logs bank (of_bank bank rs) is.records
    (laws.numbered logs rs recorded.own_order recorded.numbers bank (omega (arith, few, is.is_bank))) is.numbered
    in
    breaks_or_runs laws.one_outcome OfBank shape memory is.records number rule is.breaks
    (subst (IsRunOf OfBank shape (first_local memory)) same
    (((laws.parts shape memory rs fits).0 run).0 bank is.is_bank))
no_run laws shape memory logs (Cycle ring) few is rs recorded fits run =
    laws.rings logs ring.items is.waits rs recorded.own_order recorded.numbers

-- the bytes have one memory and one list of logs
same_memory : Laws → (shape : Shape) (bytes : List ℕ) (memory memory' : List (ℕ × Bytes))
    (logs logs' : List (List Record)) → IsTraceFor shape bytes memory logs → IsTraceFor shape bytes memory' logs'
    → (memory ≡ memory') × (logs ≡ logs')
same_memory laws shape bytes memory memory' logs logs' a b =
    let same = laws.one_trace bytes a.header b.header memory memory' a.records b.records a.trace b.trace in
    (same.1, a.are_logs ∙ ap (logs_of (shape.ports + shape.banks)) same.2 ∙ sym b.are_logs)

pub no_runs : Laws → NoHasNoRun
no_runs laws shape bytes fault no_ memory logs trace rs recorded =
    let same = same_memory laws shape bytes no_.memory memory no_.logs logs no_.trace trace in
    let is : IsFaultOfLogs shape (flat_memory memory) logs fault =
    subst (λ (m : List (ℕ × Bytes)). IsFaultOfLogs shape (flat_memory m) logs fault) same.0
    (subst (λ (ls : List (List Record)). IsFaultOfLogs shape (flat_memory no_.memory) ls fault) same.1 no_.fault_of) in
    let fits = laws.fit shape logs rs recorded.own_order (trace_fits shape bytes memory logs trace) in
    let none = no_run laws shape (flat_memory memory) logs fault (trace_banks shape bytes memory logs trace) is rs
    recorded fits in (
      none,
      λ run. none (laws.copies shape (flat_memory memory) rs (trace_factor shape bytes memory logs trace) fits
          run),
    )
