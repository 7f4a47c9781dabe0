-- How the logs are mixed in the bytes does not matter.
use Rattle.std.proofs.Common.{◌≡◌, ℕ, ◌+◌, List, [], ◌∷◌, map, refl, sym, ◌∙◌, ap, subst}
use Rattle.std.specs.List.{range_with_len}
use Rattle.lf_rules.specs.declared.shape.Shape.{Shape}
use Rattle.lf_rules.specs.declared.event.Record.{Record}
use Rattle.lf_rules.specs.Fits.{Bytes}
use Rattle.lf_rules.specs.Run.{of_log}
use Rattle.lf_codec.specs.declared.header.Header.{Header}
use Rattle.lf_codec.specs.Laws.{BytesAreOfOneTrace, FaultlessBytesAreTraces}
use Rattle.lf_logs.specs.Lists.{logs_of}
use Rattle.lf_verdict.specs.declared.answer.Outcome.TheVariants.{Yes, No, Refused}
use Rattle.lf_verdict.specs.declared.answer.Verdict.TheVariants as verdicts
use Rattle.lf_verdict.specs.declared.answer.Refusal.TheVariants as refusals
use Rattle.lf_verdict.specs.Legal.{Agrees, IsTraceFor}
use Rattle.lf_verdict.specs.Laws.{AreMixtures, MixturesHaveOneOutcome, MixturesAreAlike}
use Rattle.lf_verdict.specs.Outcome.{Differs, IsYes}

same_logs : (rs others : List Record) (logs : List ℕ) → ((log : ℕ) → of_log log rs ≡ of_log log others) →
    map (λ log. of_log log rs) logs ≡ map (λ log. of_log log others) logs
same_logs rs others [] same = refl
same_logs rs others (log ∷ logs) same =
    let here = same log in
    let rest = same_logs rs others logs same in cc

-- what is a trace for the shape stays one, with its memory and its logs
moved : BytesAreOfOneTrace → (shape : Shape) (bytes other : List ℕ) → AreMixtures bytes other →
    (memory : List (ℕ × Bytes)) (logs : List (List Record)) → IsTraceFor shape bytes memory logs
    → IsTraceFor shape other memory logs
moved one_trace shape bytes other mixed memory logs t =
    let same = one_trace bytes t.header mixed.header memory mixed.memory t.records mixed.records t.trace mixed.trace in
    let count = shape.ports + shape.banks in
    subst (λ (m : List (ℕ × Bytes)). IsTraceFor shape other m logs) (sym same.1) (record {
      header = mixed.header;
      records = mixed.others;
      trace = mixed.other_trace;
      agrees = subst (Agrees shape) same.0 t.agrees;
      are_logs = t.are_logs ∙ ap (logs_of count) same.2 ∙ same_logs mixed.records mixed.others
          (range_with_len 0 count) mixed.same_logs;
    })

abbrev moved_yes : BytesAreOfOneTrace → (shape : Shape) (bytes other : List ℕ) → AreMixtures bytes other →
    (events : ℕ) → IsYes shape bytes events → IsYes shape other events
moved_yes one_trace shape bytes other mixed events is = record {
  memory = is.memory;
  logs = is.logs;
  trace = moved one_trace shape bytes other mixed is.memory is.logs is.trace;
  ordered = is.ordered;
}

pub alike : BytesAreOfOneTrace → FaultlessBytesAreTraces → MixturesHaveOneOutcome
alike one_trace faultless shape bytes other (Yes events) fit mixed is =
    moved_yes one_trace shape bytes other mixed events is
alike one_trace faultless shape bytes other (No fault) fit mixed is =
    record {
      memory = is.memory;
      logs = is.logs;
      trace = moved one_trace shape bytes other mixed is.memory is.logs
          is.trace;
      fault_of = is.fault_of;
    }
alike one_trace faultless shape bytes other (Refused (refusals.Format fault)) fit mixed is =
    let none = (faultless bytes fit).1 (record {
      header = mixed.header;
      memory = mixed.memory;
      records =
          mixed.records;
      trace = mixed.trace;
    }) in cc
alike one_trace faultless shape bytes other (Refused (refusals.Header field)) fit mixed is =
    let same = one_trace bytes is.header mixed.header is.memory mixed.memory is.records mixed.records is.trace
    mixed.trace in
    record {
      header = mixed.header;
      memory = mixed.memory;
      records = mixed.others;
      trace =
          mixed.other_trace;
      differs = subst (λ (h : Header). Differs shape h field) same.0 is.differs;
    }
alike one_trace faultless shape bytes other (Refused _) fit mixed is = absurd is

pub mixtures_are_alike : BytesAreOfOneTrace → FaultlessBytesAreTraces → MixturesAreAlike
mixtures_are_alike one_trace faultless shape workers bytes other (verdicts.Yes events order) fit mixed is = (
  is.0,
  record {
    yes = moved_yes one_trace shape bytes other mixed events is.1.yes;
    least = is.1.least;
    count = is.1.count;
  },
)
mixtures_are_alike one_trace faultless shape workers bytes other (verdicts.No fault) fit mixed is =
    (is.0, alike one_trace faultless shape bytes other (No fault) fit mixed is.1)
mixtures_are_alike one_trace faultless shape workers bytes other (verdicts.Refused (refusals.Workers n)) fit mixed is =
    is
mixtures_are_alike one_trace faultless shape workers bytes other (verdicts.Refused (refusals.Config fault)) fit mixed
    is = absurd is.1
mixtures_are_alike one_trace faultless shape workers bytes other (verdicts.Refused (refusals.Format fault)) fit mixed
    is = (is.0, alike one_trace faultless shape bytes other (Refused (refusals.Format fault)) fit mixed is.1)
mixtures_are_alike one_trace faultless shape workers bytes other (verdicts.Refused (refusals.Header field)) fit mixed
    is = (is.0, alike one_trace faultless shape bytes other (Refused (refusals.Header field)) fit mixed is.1)
mixtures_are_alike one_trace faultless shape workers bytes other (verdicts.Refused refusals.Memory) fit mixed is =
    absurd is.1
mixtures_are_alike one_trace faultless shape workers bytes other (verdicts.Refused refusals.Thread) fit mixed is =
    absurd is.1
