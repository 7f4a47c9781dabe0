-- From what the parts of a trace answer to what a session says that ends.
use Rattle.std.proofs.Common.{◌≡◌, true, ℕ, List, length, Option, Some, None, refl, sym, ap, ◌∙◌, subst}
use Rattle.std.specs.Prelude.{IsSome}
use Rattle.std.specs.Global.{Vec}
use Rattle.std.proofs.lemmas.Option.{IfSome_then}
use Rattle.lf_verdict.specs.declared.fed.Fed.{Fed}
use Rattle.lf_rules.specs.declared.shape.Shape.{Shape}
use Rattle.lf_rules.specs.declared.event.Record.{Record}
use Rattle.lf_rules.specs.Address.{FlatMemory, flat_memory}
use Rattle.lf_rules.specs.Fits.{Bytes}
use Rattle.lf_codec.specs.declared.fault.CodecFault.{CodecFault}
use Rattle.lf_codec.specs.Laws.{ReadingIsExact, IsReadAs, AreBytes}
use Rattle.lf_codec.specs.Reading.{reading_of, fault_of, trace_fault}
use Rattle.lf_logs.specs.declared.incomplete.Incomplete.{Incomplete}
use Rattle.lf_verdict.specs.declared.answer.Outcome.{Outcome}
use Rattle.lf_verdict.specs.declared.answer.Outcome.TheVariants.{Yes, No, Refused}
use Rattle.lf_verdict.specs.declared.answer.Refusal.{Refusal}
use Rattle.lf_verdict.specs.declared.answer.Refusal.TheVariants as refusals
use Rattle.lf_verdict.specs.declared.early_end.Ending.{Ending}
use Rattle.lf_verdict.specs.declared.early_end.Ending.TheVariants as endings
use Rattle.lf_verdict.specs.declared.session.asked.Asked.{Asked}
use Rattle.lf_verdict.specs.declared.session.breaking.Broken.{Broken}
use Rattle.lf_verdict.specs.declared.session.conclusion.Conclusion.{Conclusion}
use Rattle.lf_verdict.specs.declared.session.standing.verdict.Judged.{Judged}
use Rattle.lf_verdict.specs.declared.stop.Stop.{Stop}
use Rattle.lf_verdict.specs.declared.stop.Stop.TheVariants as stops
use Rattle.lf_verdict.specs.Breaking.{NoneBroke}
use Rattle.lf_verdict.specs.Conclusion.{IsConclusion, IsLegalOutcome, IsOrderFor, refused_after, without_memory}
use Rattle.lf_verdict.specs.Final.{NoneBrokeInTrace}
use Rattle.lf_verdict.specs.Incomplete.{IsIncompleteFor}
use Rattle.lf_verdict.specs.Laws.{YesIsLegal, NoHasNoRun, IsRunlessOutcome}
use Rattle.lf_verdict.specs.Legal.{IsTraceFor}
use Rattle.lf_verdict.specs.Named.{HasBegun, NoneBrokeSoFar}
use Rattle.lf_verdict.specs.Outcome.{IsOutcomeOf, IsDecidedOutcome, IsYesOutcome}
use Rattle.lf_verdict.specs.Session.{CanTell, refusal_of}
use Rattle.lf_verdict.specs.inner.Ending.{IsEnding}
use Rattle.lf_verdict.specs.inner.Fed.{IsStopIn}
use Rattle.lf_verdict.specs.inner.Judged.{ending_outcome, IsLogsOutcome, IsLogsOrder, IsLogsIncomplete, IsLogsJudged}
use Rattle.lf_verdict.specs.inner.Judged.{IsOutcomeOrWant, IsLeastFor, IsJudged, TellsFirst}
use Rattle.lf_verdict.proofs.Breaks.{if_none}
use Rattle.lf_verdict.proofs.Statistics.{stats_of_bytes}

-- where no order, no request and no statistics are told
abbrev pub told_alone : Outcome → Judged
told_alone outcome = record { outcome = outcome; order = None; incomplete = None; statistics = None }

-- ---- of the logs

-- what ends the check is the outcome
pub of_ending : (shape : Shape) (memory : FlatMemory) (logs : List (List Record)) (ending : Ending) →
    IsEnding shape memory logs ending → IsLogsJudged shape memory logs (told_alone (ending_outcome ending))
of_ending shape memory logs (endings.Fault fault) is = record {
  outcome = is;
  order = tt;
  incomplete = refl;
  statistics = tt;
  after_yes = λ some. absurd (cc);
}
of_ending shape memory logs endings.NoMemory is = record {
  outcome = tt;
  order = tt;
  incomplete = refl;
  statistics = tt;
  after_yes = λ some. absurd (cc);
}

-- ... and no yes
pub no_yes_ending : (ending : Ending) (outcome : Outcome) (judged : Judged) → outcome ≡ ending_outcome ending →
    judged ≡ told_alone outcome → IsYesOutcome judged.outcome → ⊥
no_yes_ending (endings.Fault fault) outcome judged same alone told =
    subst IsYesOutcome same (subst (λ (j : Judged). IsYesOutcome j.outcome) alone told)
no_yes_ending endings.NoMemory outcome judged same alone told =
    subst IsYesOutcome same (subst (λ (j : Judged). IsYesOutcome j.outcome) alone told)

-- ---- of the bytes

module _ (shape : Shape) (bytes : List ℕ) (memory : List (ℕ × Bytes)) (logs : List (List Record))
    (trace : IsTraceFor shape bytes memory logs) where
  of_logs : (outcome : Outcome) → IsLogsOutcome shape (flat_memory memory) logs outcome →
      IsOutcomeOrWant shape bytes outcome
  of_logs (Yes events) is = record { memory = memory; logs = logs; trace = trace; ordered = is }
  of_logs (No fault) is = record { memory = memory; logs = logs; trace = trace; fault_of = is }
  of_logs (Refused refusals.Memory) is = tt
  of_logs (Refused _) is = absurd is

  least_of_logs : (outcome : Outcome) (order : List ℕ) → IsLogsOutcome shape (flat_memory memory) logs outcome →
      IsLogsOrder logs outcome order → IsLeastFor shape bytes outcome order
  least_of_logs (Yes events) order has is = record {
    yes = record { memory = memory; logs = logs; trace = trace; ordered = has };
    least = is.0;
    count = is.1;
  }
  least_of_logs (No fault) order has is = is
  least_of_logs (Refused refusal) order has is = is

  first_of_logs : (outcome : Outcome) (found : Option Incomplete) → IsLogsIncomplete shape logs outcome found →
      IsIncompleteFor shape bytes outcome found
  first_of_logs (Yes events) found is = record { memory = memory; logs = logs; trace = trace; first = is }
  first_of_logs (No fault) found is = is
  first_of_logs (Refused refusal) found is = is

  pub judged_of_logs : (judged : Judged) → IsLogsJudged shape (flat_memory memory) logs judged →
      IsJudged shape bytes judged
  judged_of_logs judged is = record {
    outcome = of_logs judged.outcome is.outcome;
    order = IfSome_then judged.order is.order
        (λ (order : Vec ℕ) least. least_of_logs judged.outcome order.items is.outcome least);
    incomplete = first_of_logs judged.outcome judged.incomplete is.incomplete;
    statistics = stats_of_bytes shape bytes memory logs judged.statistics trace is.statistics;
    after_yes = is.after_yes;
  }

-- where the bytes are refused
pub refusal_judged : (shape : Shape) (bytes : List ℕ) (refusal : Refusal) →
    IsOutcomeOrWant shape bytes (Refused refusal) → IsJudged shape bytes (told_alone (Refused refusal))
refusal_judged shape bytes refusal is = record {
  outcome = is;
  order = tt;
  incomplete = refl;
  statistics = tt;
  after_yes = λ some. absurd (cc);
}

-- ---- what broke

-- Where no part is at fault in what was read of a whole trace, none is in the trace.
none_in_trace : ReadingIsExact → (shape : Shape) (bytes : List ℕ) → AreBytes bytes → NoneBrokeSoFar shape bytes →
    NoneBrokeInTrace shape bytes
none_in_trace exact shape bytes are_bytes none memory logs t =
    let read_as : IsReadAs bytes t.header memory t.records =
    (exact bytes t.header memory t.records are_bytes).1 t.trace in
    let begun : HasBegun shape bytes = record {
      header = t.header;
      read = read_as.1;
      agrees = t.agrees;
      whole = ap (λ (m : List (ℕ × Bytes)). length m) read_as.2 ∙ sym t.trace.fits.memory_count;
    } in
    subst (λ (m : List (ℕ × Bytes)). NoneBroke shape (flat_memory m) t.records) read_as.2
    (subst (λ (rs : List Record). NoneBroke shape (flat_memory (reading_of bytes).memory) rs) read_as.3
    (none.parts begun))

-- Bytes in which a fault of the format stands are no trace.
none_stopped : ReadingIsExact → (shape : Shape) (bytes : List ℕ) (stop : Stop) → IsStopIn bytes stop →
    IsDecidedOutcome (Refused (refusal_of stop)) → NoneBrokeInTrace shape bytes
none_stopped exact shape bytes (stops.Format fault) at decided memory logs t =
    let fine : trace_fault bytes ≡ None = ((exact bytes t.header memory t.records at.1).1 t.trace).0 in
    let found : trace_fault bytes ≡ Some fault = ap (λ (f : Option CodecFault). fault_of (reading_of bytes) f) at.0 in
    absurd (cc)
none_stopped exact shape bytes stops.Memory at decided memory logs t = absurd decided

-- ---- a session that ends

-- what a session concludes from these
abbrev pub conclusion_of : Fed → Option Broken → Judged → Conclusion
conclusion_of fed broken judged = record {
  fed = fed;
  outcome = judged.outcome;
  order = judged.order;
  broken = broken;
  incomplete = judged.incomplete;
  statistics = judged.statistics;
}

module _ (yes_law : YesIsLegal) (no_law : NoHasNoRun) (exact : ReadingIsExact) (shape : Shape) where
  decided : (bytes : List ℕ) (outcome : Outcome) → IsOutcomeOrWant shape bytes outcome → IsDecidedOutcome outcome →
      IsOutcomeOf shape bytes outcome
  decided bytes (Yes events) is on = is
  decided bytes (No fault) is on = is
  decided bytes (Refused (refusals.Workers n)) is on = is
  decided bytes (Refused (refusals.Config fault)) is on = is
  decided bytes (Refused (refusals.Format fault)) is on = is
  decided bytes (Refused (refusals.Header field)) is on = is
  decided bytes (Refused refusals.Memory) is on = absurd on
  decided bytes (Refused refusals.Thread) is on = absurd on

  legal : (bytes : List ℕ) (outcome : Outcome) → IsOutcomeOrWant shape bytes outcome →
      IsLegalOutcome shape bytes outcome
  legal bytes (Yes events) is =
      let has = is.ordered in
      (has.order, (yes_law shape bytes has.order is.memory is.logs is.trace has.parts has.is_order, has.count))
  legal bytes (No fault) is = tt
  legal bytes (Refused refusal) is = tt

  runless : (bytes : List ℕ) (outcome : Outcome) → IsOutcomeOrWant shape bytes outcome →
      IsRunlessOutcome shape bytes outcome
  runless bytes (Yes events) is = tt
  runless bytes (No fault) is = no_law shape bytes fault is
  runless bytes (Refused refusal) is = tt

  no_thread : (bytes : List ℕ) (outcome : Outcome) → IsOutcomeOrWant shape bytes outcome →
      ¬ (outcome ≡ Refused refusals.Thread)
  no_thread bytes outcome is e = subst (IsOutcomeOrWant shape bytes) e is

  legal_order : (bytes : List ℕ) (outcome : Outcome) (order : List ℕ) → IsLeastFor shape bytes outcome order →
      IsOrderFor shape bytes outcome order
  legal_order bytes (Yes events) order is =
      let one = is.yes in
      (is, yes_law shape bytes order one.memory one.logs one.trace one.ordered.parts is.least.is_order)
  legal_order bytes (No fault) order is = is
  legal_order bytes (Refused refusal) order is = is

  pub concluded : (asked : Asked) (fed : Fed) (broken : Option Broken) (judged : Judged) → AreBytes fed.bytes →
      IsJudged shape fed.bytes judged → TellsFirst asked shape fed.bytes None broken
      → (asked.ordered ≡ true → IsYesOutcome judged.outcome → IsSome judged.order)
      → (asked.counted ≡ true → IsYesOutcome judged.outcome → IsSome judged.statistics)
      → IsConclusion asked shape (conclusion_of fed broken judged)
  concluded asked fed broken judged are is first ordered counted = record {
    outcome = decided fed.bytes judged.outcome is.outcome;
    legal = legal fed.bytes judged.outcome is.outcome;
    runless = runless fed.bytes judged.outcome is.outcome;
    thread = no_thread fed.bytes judged.outcome is.outcome;
    order = IfSome_then judged.order is.order
        (λ (order : Vec ℕ) least. legal_order fed.bytes judged.outcome order.items least);
    ordered = ordered;
    broken = first.final;
    earliest = first.earliest;
    none = λ on watched. if_none broken (first.none watched tt) (none_in_trace exact shape fed.bytes are);
    none_so_far = λ on watched. first.none watched tt;
    incomplete = is.incomplete;
    statistics = is.statistics;
    after_yes = is.after_yes;
    counted = counted;
  }

-- where memory runs out
pub memory_concluded : (asked : Asked) (shape : Shape) (fed : Fed) → IsConclusion asked shape (without_memory fed)
memory_concluded asked shape fed = record {
  outcome = λ on. absurd on;
  legal = tt;
  runless = tt;
  thread = λ e. absurd (cc);
  order = tt;
  ordered = λ ordered told. absurd told;
  broken = tt;
  earliest = tt;
  none = λ on watched. absurd on;
  none_so_far = λ on watched. absurd on;
  incomplete = refl;
  statistics = tt;
  after_yes = λ some. absurd (cc);
  counted = λ counted told. absurd told;
}

-- where it was stopped, and this broke before
pub stop_concluded : ReadingIsExact → (asked : Asked) (shape : Shape) (fed : Fed) (stop : Stop) (broken : Option Broken)
    → IsStopIn fed.bytes stop → TellsFirst asked shape fed.bytes (Some stop) broken
    → IsConclusion asked shape (refused_after broken fed (refusal_of stop))
stop_concluded exact asked shape fed stop broken at first = record {
  outcome = outcome stop at;
  legal = tt;
  runless = tt;
  thread = thread stop;
  order = tt;
  ordered = λ ordered told. absurd told;
  broken = first.final;
  earliest = first.earliest;
  none = λ on watched. if_none broken (tells stop watched on (first.none watched))
      (λ _. none_stopped exact shape fed.bytes stop at on);
  none_so_far = λ on watched. tells stop watched on (first.none watched);
  incomplete = refl;
  statistics = tt;
  after_yes = λ some. absurd (cc);
  counted = λ counted told. absurd told;
}
  where
    outcome : (stop : Stop) → IsStopIn fed.bytes stop → IsDecidedOutcome (Refused (refusal_of stop)) →
        IsOutcomeOf shape fed.bytes (Refused (refusal_of stop))
    outcome (stops.Format fault) at on = ap (λ (f : Option CodecFault). fault_of (reading_of fed.bytes) f) at.0
    outcome stops.Memory at on = absurd on

    thread : (stop : Stop) → ¬ (Refused (refusal_of stop) ≡ Refused refusals.Thread)
    thread (stops.Format fault) e = absurd (cc)
    thread stops.Memory e = absurd (cc)

    tells : {P : Type 0} (stop : Stop) → asked.watched ≡ true → IsDecidedOutcome (Refused (refusal_of stop))
        → (CanTell asked (Some stop) → P) → P
    tells (stops.Format fault) watched on first = first watched
    tells stops.Memory watched on first = absurd on
