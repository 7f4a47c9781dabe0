-- From the logs of a trace to the verdict of its bytes.
use Rattle.std.proofs.Common.{◌≡◌, ℕ, ◌+◌, ◌<◌, ◌≤◌, ◌^◌, ◌==◌, true, false, cond, List, [], length, get_or, sym, ◌∙◌}
use Rattle.std.proofs.Common.{ap, subst, arith}
use Rattle.std.specs.List.{AllByRecursion, All}
use Rattle.std.specs.Global.{Vec}
use Rattle.std.proofs.lemmas.List.{length-map, get_or-map}
use Rattle.std.proofs.lemmas.List.FromFn.{length-map-range_with_len}
use Rattle.lf_rules.specs.declared.shape.Shape.{Shape}
use Rattle.lf_rules.specs.declared.event.Record.{Record}
use Rattle.lf_rules.specs.declared.event.Event.{Event}
use Rattle.lf_rules.specs.declared.event.Event.TheVariants.{Issue, Reply, Fence}
use Rattle.lf_rules.specs.Address.{FlatMemory, flat_memory}
use Rattle.lf_rules.specs.Fits.{Bytes, FitsLog, FitsBank, Fits}
use Rattle.lf_rules.specs.Order.{log_at}
use Rattle.lf_rules.specs.Run.{of_log}
use Rattle.lf_codec.specs.declared.header.Header.{Header}
use Rattle.lf_codec.specs.Checks.{log_limit}
use Rattle.lf_codec.specs.Trace.{IsTrace}
use Rattle.lf_rules.specs.Lists.{lists_of}
use Rattle.lf_logs.specs.Lists.{logs_of}
use Rattle.lf_pool.specs.declared.job.Jobs.{Jobs}
use Rattle.lf_verdict.specs.declared.answer.Verdict.{Verdict}
use Rattle.lf_verdict.specs.declared.answer.Verdict.TheVariants.{Yes, No, Refused}
use Rattle.lf_verdict.specs.declared.answer.HeaderField.{HeaderField}
use Rattle.lf_verdict.specs.declared.stop.Stop.{Stop}
use Rattle.lf_verdict.specs.declared.stop.Stop.TheVariants as stops
use Rattle.lf_verdict.specs.Session.{refusal_of}
use Rattle.lf_verdict.specs.declared.answer.Refusal.TheVariants as refusals
use Rattle.lf_verdict.specs.Legal.{IsTraceFor}
use Rattle.lf_verdict.specs.Laws.{YesIsLegal, NoHasNoRun, IsRunlessNo}
use Rattle.lf_verdict.specs.inner.Gathering.{IsReadStop}
use Rattle.lf_verdict.specs.Outcome.{Differs}
use Rattle.lf_verdict.specs.Verdict.{IsVerdictOf, IsLegalYes, IsDecided, IsWorkerCount}
use Rattle.lf_verdict.specs.declared.early_end.Ending.{Ending}
use Rattle.lf_verdict.specs.declared.early_end.Ending.TheVariants as endings
use Rattle.lf_verdict.specs.inner.Ending.{IsEnding, ending_verdict, IsLogsVerdict, IsVerdictOrWant}
use Rattle.lf_verdict.specs.inner.Jobs.{LogsFit, AreJobsOf, IsWorkersVerdict, IsWorkersAnswer}
use Rattle.lf_verdict.proofs.Traces.{logs_fit, log_of_logs}

-- ---- the logs of a trace that agrees with the shape

pub log_below : (ports bank number log banks : ℕ) (event : Event) → FitsBank banks bank number event →
    FitsLog ports bank log event → log < ports + banks
log_below ports bank number log banks (Issue op tag size address bytes) named fits = omega arith
log_below ports bank number log banks (Reply tag size bytes) named fits = omega arith
log_below ports bank number log banks Fence named fits = omega arith
log_below ports bank number log banks _ named fits = omega arith

list_of : (vecs : Vec (Vec Record)) (i : ℕ) (d : Vec Record) → i < length vecs.items →
    log_at (lists_of vecs) i ≡ (get_or vecs.items i d).items
list_of vecs i d lt = get_or-map (λ (v : Vec Record). v.items) vecs.items i d [] lt

pub logs_count : (vecs : Vec (Vec Record)) (count : ℕ) (rs : List Record) → lists_of vecs ≡ logs_of count rs →
    length vecs.items ≡ count
logs_count vecs count rs e =
    sym (length-map vecs.items (λ (v : Vec Record). v.items)) ∙ ap length e
    ∙ length-map-range_with_len (λ log. of_log log rs) 0 count

pub limit_is_small : (version : ℕ) → log_limit version ≤ 2 ^ 24
limit_is_small version = elim (version == 1) as (λ b. cond b 1048576 16777216 ≤ 2 ^ 24)
    [ true ↦ omega arith | false ↦ omega arith ]

pub logs_short : (version : ℕ) (vecs : Vec (Vec Record)) (count : ℕ) (rs : List Record) →
    lists_of vecs ≡ logs_of count rs → ((log : ℕ) → length (of_log log rs) ≤ log_limit version)
    → All (λ (v : Vec Record). length v.items ≤ 2 ^ 24) vecs.items
logs_short version vecs count rs e short log d lt =
    let within : log < count = omega (arith, logs_count vecs count rs e) in
    let here : (get_or vecs.items log d).items ≡ of_log log rs =
    sym (list_of vecs log d lt) ∙ ap (λ (logs : List (List Record)). log_at logs log) e
    ∙ log_of_logs count log rs within in
    omega (arith, ap length here, short log, limit_is_small version)

pub logs_fit_shape : (shape : Shape) (vecs : Vec (Vec Record)) (count : ℕ) (rs : List Record) →
    lists_of vecs ≡ logs_of count rs → AllByRecursion (Fits shape) rs → LogsFit shape (lists_of vecs)
logs_fit_shape shape vecs count rs e fits = subst (LogsFit shape) (sym e) (logs_fit shape count rs fits)

-- ---- the verdict

pub of_logs : (shape : Shape) (bytes : List ℕ) (memory : List (ℕ × Bytes)) (logs : List (List Record))
    (verdict : Verdict) → IsTraceFor shape bytes memory logs
    → IsLogsVerdict shape (flat_memory memory) logs verdict → IsVerdictOrWant shape bytes verdict
of_logs shape bytes memory logs (Yes events order) trace is =
    record {
      yes = record {
        memory = memory;
        logs = logs;
        trace = trace;
        ordered = record {
          parts = is.0.parts;
          order = order.items;
          is_order = is.0.least.is_order;
          count = is.1;
        };
      };
      least = is.0.least;
      count = is.1;
    }
of_logs shape bytes memory logs (No fault) trace is = record {
  memory = memory;
  logs = logs;
  trace = trace;
  fault_of =
      is;
}
of_logs shape bytes memory logs (Refused refusals.Memory) trace is = tt
of_logs shape bytes memory logs (Refused _) trace is = absurd is

-- ---- the same by several workers

-- the verdict of the logs is that of the jobs of these logs
pub of_jobs : (shape : Shape) (memory : FlatMemory) (logs : List (List Record)) (jobs : Jobs) (verdict : Verdict) →
    AreJobsOf shape memory logs jobs
    → IsLogsVerdict jobs.shape (flat_memory jobs.memory.items) (lists_of jobs.logs) verdict →
    IsWorkersVerdict shape memory logs verdict
of_jobs shape memory logs jobs verdict of is = unless_thread verdict
    (subst (λ (z : Shape × (FlatMemory × List (List Record))). IsLogsVerdict z.0 z.1.0 z.1.1 verdict) of.same is)
  where
    unless_thread : (v : Verdict) → IsLogsVerdict shape memory logs v → IsWorkersVerdict shape memory logs v
    unless_thread (Yes events order) is = is
    unless_thread (No fault) is = is
    unless_thread (Refused refusals.Thread) is = tt
    unless_thread (Refused refusals.Memory) is = is
    unless_thread (Refused (refusals.Workers n)) is = is
    unless_thread (Refused (refusals.Config fault)) is = is
    unless_thread (Refused (refusals.Format fault)) is = is
    unless_thread (Refused (refusals.Header field)) is = is

pub of_workers_logs : (shape : Shape) (bytes : List ℕ) (memory : List (ℕ × Bytes)) (logs : List (List Record))
    (verdict : Verdict) → IsTraceFor shape bytes memory logs
    → IsWorkersVerdict shape (flat_memory memory) logs verdict → IsWorkersAnswer shape bytes verdict
of_workers_logs shape bytes memory logs (Yes events order) trace is =
    of_logs shape bytes memory logs (Yes events order) trace is
of_workers_logs shape bytes memory logs (No fault) trace is = of_logs shape bytes memory logs (No fault) trace is
of_workers_logs shape bytes memory logs (Refused refusals.Thread) trace is = tt
of_workers_logs shape bytes memory logs (Refused refusals.Memory) trace is = tt
of_workers_logs shape bytes memory logs (Refused (refusals.Workers n)) trace is = absurd is
of_workers_logs shape bytes memory logs (Refused (refusals.Config fault)) trace is = absurd is
of_workers_logs shape bytes memory logs (Refused (refusals.Format fault)) trace is = absurd is
of_workers_logs shape bytes memory logs (Refused (refusals.Header field)) trace is = absurd is

pub of_header : (shape : Shape) (bytes : List ℕ) (h : Header) (memory : List (ℕ × Bytes)) (rs : List Record)
    (field : HeaderField) → IsTrace bytes h memory rs → Differs shape h field
    → IsWorkersAnswer shape bytes (Refused (refusals.Header field))
of_header shape bytes h memory rs field trace differs = record {
  header = h;
  memory = memory;
  records = rs;
  trace =
      trace;
  differs = differs;
}

pub of_reading : (shape : Shape) (bytes : List ℕ) (stop : Stop) → IsReadStop bytes stop →
    IsWorkersAnswer shape bytes (Refused (refusal_of stop))
of_reading shape bytes (stops.Format fault) is = is
of_reading shape bytes stops.Memory is = tt

-- what ends the check is the verdict
pub of_ending : (shape : Shape) (memory : FlatMemory) (logs : List (List Record)) (ending : Ending) →
    IsEnding shape memory logs ending → IsLogsVerdict shape memory logs (ending_verdict ending)
of_ending shape memory logs (endings.Fault fault) is = is
of_ending shape memory logs endings.NoMemory is = tt

-- ---- what the call promises

pub legal_yes : YesIsLegal → (shape : Shape) (bytes : List ℕ) (verdict : Verdict) →
    IsVerdictOrWant shape bytes verdict → IsLegalYes shape bytes verdict
legal_yes law shape bytes (Yes events order) is =
    let one = is.yes in
    (law shape bytes order.items one.memory one.logs one.trace one.ordered.parts is.least.is_order, is.count)
legal_yes law shape bytes _ is = tt

pub runless_no : NoHasNoRun → (shape : Shape) (bytes : List ℕ) (verdict : Verdict) →
    IsVerdictOrWant shape bytes verdict → IsRunlessNo shape bytes verdict
runless_no law shape bytes (No fault) is = law shape bytes fault is
runless_no law shape bytes _ is = tt

pub verdict_of : (shape : Shape) (workers : ℕ) (bytes : List ℕ) (verdict : Verdict) → IsWorkerCount workers →
    IsVerdictOrWant shape bytes verdict
    → IsDecided verdict → IsVerdictOf shape workers bytes verdict
verdict_of shape workers bytes (Yes events order) one is judged = (one, is)
verdict_of shape workers bytes (No fault) one is judged = (one, is)
verdict_of shape workers bytes (Refused (refusals.Format fault)) one is judged = (one, is)
verdict_of shape workers bytes (Refused (refusals.Header field)) one is judged = (one, is)
verdict_of shape workers bytes (Refused (refusals.Workers n)) one is judged = absurd is
verdict_of shape workers bytes (Refused (refusals.Config fault)) one is judged = absurd is
verdict_of shape workers bytes (Refused refusals.Memory) one is judged = absurd judged
verdict_of shape workers bytes (Refused refusals.Thread) one is judged = absurd judged

-- ---- what the call promises with several workers

-- what holds of each answer, and where a thread was refused, holds of what several workers answer
by_workers : (shape : Shape) (bytes : List ℕ) (P : Verdict → Type 0) → P (Refused refusals.Thread) →
    ((v : Verdict) → IsVerdictOrWant shape bytes v → P v)
    → (verdict : Verdict) → IsWorkersAnswer shape bytes verdict → P verdict
by_workers shape bytes P thread each (Yes events order) is = each (Yes events order) is
by_workers shape bytes P thread each (No fault) is = each (No fault) is
by_workers shape bytes P thread each (Refused refusals.Thread) is = thread
by_workers shape bytes P thread each (Refused refusals.Memory) is = each (Refused refusals.Memory) is
by_workers shape bytes P thread each (Refused (refusals.Workers n)) is = each (Refused (refusals.Workers n)) is
by_workers shape bytes P thread each (Refused (refusals.Config fault)) is = each (Refused (refusals.Config fault)) is
by_workers shape bytes P thread each (Refused (refusals.Format fault)) is = each (Refused (refusals.Format fault)) is
by_workers shape bytes P thread each (Refused (refusals.Header field)) is = each (Refused (refusals.Header field)) is

pub workers_legal : YesIsLegal → (shape : Shape) (bytes : List ℕ) (verdict : Verdict) →
    IsWorkersAnswer shape bytes verdict → IsLegalYes shape bytes verdict
workers_legal law shape bytes = by_workers shape bytes (IsLegalYes shape bytes) tt (legal_yes law shape bytes)

pub workers_runless : NoHasNoRun → (shape : Shape) (bytes : List ℕ) (verdict : Verdict) →
    IsWorkersAnswer shape bytes verdict → IsRunlessNo shape bytes verdict
workers_runless law shape bytes = by_workers shape bytes (IsRunlessNo shape bytes) tt (runless_no law shape bytes)

pub workers_verdict : (shape : Shape) (workers : ℕ) (bytes : List ℕ) (verdict : Verdict) → IsWorkerCount workers →
    IsWorkersAnswer shape bytes verdict
    → IsDecided verdict → IsVerdictOf shape workers bytes verdict
workers_verdict shape workers bytes verdict may =
    by_workers shape bytes (λ v. IsDecided v → IsVerdictOf shape workers bytes v) (λ none. absurd none)
    (λ v is judged. verdict_of shape workers bytes v may is judged) verdict

pub workers_never_workers : (shape : Shape) (bytes : List ℕ) (verdict : Verdict) (n : ℕ) →
    IsWorkersAnswer shape bytes verdict → verdict ≡ Refused (refusals.Workers n) → ⊥
workers_never_workers shape bytes verdict n is e = subst (IsWorkersAnswer shape bytes) e is
