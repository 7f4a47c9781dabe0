-- What is told of a legal trace that is not complete.
use Rattle.std.proofs.Common.{◌≡◌, ℕ, ◌+◌, ◌<◌, List, Option, None, Some, length, sym, ap, ◌∙◌, subst}
use Rattle.std.proofs.Common.{arith}
use Rattle.std.specs.Prelude.{slice_get, slice_index_or}
use Rattle.std.proofs.lemmas.Option.{slice_get-get_or}
use Rattle.lf_rules.specs.declared.shape.Shape.{Shape}
use Rattle.lf_rules.specs.declared.event.Record.{Record}
use Rattle.lf_rules.specs.Fits.{Bytes}
use Rattle.lf_codec.specs.declared.header.Header.{Header}
use Rattle.lf_codec.proofs.TraceLaws.{bytes_are_of_one_trace}
use Rattle.explain_why.specs.declared.packing.Packing.{Packing}
use Rattle.explain_why.specs.Packing.{IsPacking}
use Rattle.explain_history.specs.History.{last_at_request}
use Rattle.explain_history.specs.Waiting.{waiting_request}
use Rattle.explain_lines.specs.Marks.{besides, besides_of}
use Rattle.explain_origins.specs.declared.origins.Origins.{Origins}
use Rattle.lf_logs.specs.Lists.{logs_of}
use Rattle.lf_logs.specs.declared.incomplete.Incomplete.{Incomplete}
use Rattle.lf_verdict.specs.Breaking.{first_offset}
use Rattle.explain_why.specs.declared.not_complete.NotComplete.{NotComplete}
use Rattle.lf_verdict.specs.Incomplete.{IsIncompleteIn}
use Rattle.explain_why.specs.NotComplete.{oldest_of, IsStateAtEnd, IsStuck, IsNotComplete}
use Rattle.explain_why.proofs.Waits.{has_request}

module _ (shape : Shape) (bytes : List ℕ) (found : Incomplete) (is : IsIncompleteIn shape bytes (Some found))
    (packing : Packing) (has : IsPacking bytes packing) where
  -- The packing is of the trace that the request is of.
  one : (has.header ≡ is.trace.header) × (packing.memory.items ≡ is.memory)
      × (packing.records.records ≡ is.trace.records)
  one = bytes_are_of_one_trace bytes has.header is.trace.header packing.memory.items is.memory
      packing.records.records is.trace.records has.trace is.trace.trace

  -- So the request is among its records.
  pub request_waits : waiting_request found.port found.tag packing.records.records ≡ None → ⊥
  request_waits none =
      has_request (shape.ports + shape.banks) found.port found.tag is.logs packing.records.records
      (is.trace.are_logs ∙ ap (logs_of (shape.ports + shape.banks)) (sym one.2)) (omega (arith, is.first.0))
      is.first.1.0 none

  -- What was found is why the trace is not complete.
  pub is_not_complete : (time : ℕ → ℕ → Option (List ℕ)) (most : ℕ) (why : NotComplete) → why.request ≡ found
      → why.records.records ≡ packing.records.records
      → besides why.marks ≡ besides_of time packing.start packing.records.records
      → waiting_request found.port found.tag packing.records.records ≡ Some why.place
      → IsStuck shape packing.records.records most why.place why.oldest why.at_block.items why.state.items
      → IsNotComplete shape bytes time most found why
  is_not_complete time most why is_request records marks waits stuck = record {
    memory = is.memory;
    logs = is.logs;
    trace = is.trace;
    first = is.first;
    is_request = is_request;
    records = records ∙ one.2;
    marks = marks ∙ ap (λ (start : ℕ). besides_of time start packing.records.records) has.first
        ∙ ap (λ (h : Header). besides_of time (first_offset h packing.memory.items) packing.records.records) one.0
        ∙ ap (λ (m : List (ℕ × Bytes)). besides_of time (first_offset is.trace.header m) packing.records.records) one.1
        ∙ ap (besides_of time (first_offset is.trace.header is.memory)) one.2;
    waits = subst (λ (rs : List Record). waiting_request found.port found.tag rs ≡ Some why.place) one.2 waits;
    stuck = subst (λ (rs : List Record). IsStuck shape rs most why.place why.oldest why.at_block.items why.state.items)
        one.2 stuck;
  }

-- What is told of the oldest request is of its record.
pub is_stuck : (shape : Shape) (rs : List Record) (most place oldest : ℕ) (at_block : List ℕ) (state : List Origins)
    (d : Record) (bank : ℕ) → oldest ≡ oldest_of shape rs place → oldest < length rs
    → at_block ≡ last_at_request shape rs most (slice_index_or rs oldest d)
    → bank ≡ (slice_index_or rs oldest d).bank → IsStateAtEnd shape rs bank state
    → IsStuck shape rs most place oldest at_block state
is_stuck shape rs most place oldest at_block state d bank is inside at_block_are bank_is state_is = record {
  oldest_is = is;
  request = slice_index_or rs oldest d;
  stands = slice_get-get_or rs oldest d inside;
  at_block_are = at_block_are;
  state_is = subst (λ (b : ℕ). IsStateAtEnd shape rs b state) bank_is state_is;
}
