-- From the bytes of a trace to its logs.
use Rattle.std.proofs.Common.{◌≡◌, ℕ, ◌+◌, ◌<◌, ◌≤◌, ◌^◌, List, [], ◌∷◌, IsPermutation, length}
use Rattle.std.proofs.Common.{get_or, sym}
use Rattle.std.proofs.Common.{◌∙◌, ap, subst, arith}
use Rattle.std.specs.List.{AllByRecursion, All}
use Rattle.std.proofs.lemmas.List.{get_or_default}
use Rattle.std.proofs.lemmas.List.Elements.{All-from_recursion}
use Rattle.std.proofs.lemmas.List.FromFn.{length-map-range_with_len}
use Rattle.std.proofs.lemmas.List.Sorted.{length_permutation}
use Rattle.lf_rules.specs.declared.shape.Shape.{Shape}
use Rattle.lf_rules.specs.declared.event.Record.{Record}
use Rattle.lf_rules.specs.Fits.{Fits, Bytes}
use Rattle.lf_rules.specs.InRange.{IsShape}
use Rattle.lf_rules.specs.Order.{log_at}
use Rattle.lf_rules.specs.Run.{of_log}
use Rattle.lf_rules.specs.Numbers.{all_records}
use Rattle.lf_rules.proofs.Permuted.{interleaving_permutes}
use Rattle.lf_codec.specs.declared.header.Header.{Header}
use Rattle.lf_codec.specs.Laws.{BytesAreOfOneTrace}
use Rattle.lf_codec.specs.Trace.{IsTrace}
use Rattle.lf_logs.proofs.Joined.{all_le}
use Rattle.lf_logs.specs.Lists.{logs_of}
use Rattle.lf_verdict.proofs.Answered.{log_below, limit_is_small}
use Rattle.lf_verdict.proofs.Settled.{interleaves}
use Rattle.lf_verdict.proofs.Traces.{records_fit, log_of_logs}
use Rattle.explain_why.specs.Logs.{IsCountable, AreListsIn}

all_below : (shape : Shape) (rs : List Record) → AllByRecursion (Fits shape) rs →
    AllByRecursion (λ r. r.log < shape.ports + shape.banks) rs
all_below shape [] fits = tt
all_below shape (r ∷ rs) fits = (
  log_below shape.ports r.bank r.number r.log shape.banks r.event fits.0.bank
      fits.0.log,
  all_below shape rs fits.1,
)

records_of_trace : (shape : Shape) (bytes : List ℕ) (c : IsCountable shape bytes)
    → AllByRecursion (Fits shape) c.trace.records
records_of_trace shape bytes c =
    records_fit shape c.trace.header c.memory c.trace.records c.trace.trace.fits c.trace.agrees

-- Each names a log.
trace_below : (shape : Shape) (bytes : List ℕ) (c : IsCountable shape bytes)
    → All (λ r. r.log < shape.ports + shape.banks) c.trace.records
trace_below shape bytes c =
    All-from_recursion (λ r. r.log < shape.ports + shape.banks) c.trace.records
    (all_below shape c.trace.records (records_of_trace shape bytes c))

module _ (shape : Shape) (bytes : List ℕ) (c : IsCountable shape bytes) where
  lists_count : length c.logs ≡ shape.ports + shape.banks
  lists_count = ap length c.trace.are_logs
      ∙ length-map-range_with_len (λ log. of_log log c.trace.records) 0 (shape.ports + shape.banks)

  lists_short : All (λ log. length log ≤ 2 ^ 24) c.logs
  lists_short log d lt =
      let count = shape.ports + shape.banks in
      let within : log < count = omega (arith, lists_count) in
      let here : get_or c.logs log d ≡ of_log log c.trace.records =
      get_or_default c.logs log d [] lt ∙ ap (λ (ls : List (List Record)). log_at ls log) c.trace.are_logs
      ∙ log_of_logs count log c.trace.records within in
      omega (arith, ap length here, c.trace.trace.fits.logs log, limit_is_small c.trace.header.version)

  -- A trace has so many records at most.
  few_in_trace : IsShape shape → length c.trace.records ≤ 2 ^ 29
  few_in_trace in_range =
      let logs = c.logs in
      let moved = subst (λ (ls : List (List Record)). IsPermutation c.trace.records (all_records ls))
      (sym c.trace.are_logs)
      (interleaving_permutes (logs_of (shape.ports + shape.banks) c.trace.records) c.trace.records
      (interleaves shape c.trace.records (records_of_trace shape bytes c))) in
      omega (
        arith,
        length_permutation c.trace.records (all_records logs) moved,
        all_le logs lists_short,
        lists_count,
        in_range.ports.1,
        in_range.banks.1,
      )

  module _ (one : BytesAreOfOneTrace) (h : Header) (memory : List (ℕ × Bytes)) (records : List Record)
      (trace : IsTrace bytes h memory records) where
    same_records : records ≡ c.trace.records
    same_records = (one bytes h c.trace.header memory c.memory records c.trace.records trace c.trace.trace).2

    pub packed_below : All (λ r. r.log < shape.ports + shape.banks) records
    packed_below = subst (All (λ (r : Record). r.log < shape.ports + shape.banks)) (sym same_records)
        (trace_below shape bytes c)

    pub packed_few : IsShape shape → length records ≤ 2 ^ 29
    packed_few in_range = subst (λ (rs : List Record). length rs ≤ 2 ^ 29) (sym same_records) (few_in_trace in_range)

    -- Split, they are the logs of the trace.
    pub packed_lists : (lists : List (List Record)) → lists ≡ logs_of (shape.ports + shape.banks) records
        → AreListsIn shape bytes lists
    packed_lists lists split =
        subst (AreListsIn shape bytes)
        (c.trace.are_logs ∙ ap (logs_of (shape.ports + shape.banks)) (sym same_records) ∙ sym split)
        (record {
          memory = c.memory;
          trace = c.trace;
          count = lists_count;
          short = lists_short;
          whole = c.whole;
        })
