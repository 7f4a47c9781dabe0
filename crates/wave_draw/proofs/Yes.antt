-- What an order takes from the logs of some records is what it has of the records.
use Rattle.std.proofs.Common.{◌≡◌, ℕ, ◌+◌, ◌<◌, ◌≤◌, ◌==◌, List, [], ◌∷◌, ◌++◌, drop, length, Option, Some, refl}
use Rattle.std.proofs.Common.{sym, ap, ◌∙◌, eqb-true, inl, inr, arith}
use Rattle.std.specs.Global.{Vec}
use Rattle.std.specs.List.{AllByRecursion}
use Rattle.std.proofs.lemmas.Bool.{cases_Bool, cases_lt, cond-false}
use Rattle.std.proofs.lemmas.List.{get_or_past}
use Rattle.std.proofs.lemmas.List.FromFn.{get_or-map-range_with_len, length-map-range_with_len}
use Rattle.lf_rules.specs.declared.event.Record.{Record}
use Rattle.lf_rules.specs.Run.{of_log, Interleaves}
use Rattle.lf_rules.specs.Order.{log_at, after_next, Takes}
use Rattle.lf_codec.specs.declared.header.Header.{Header}
use Rattle.lf_codec.specs.Reading.{reading_of}
use Rattle.lf_codec.specs.Trace.{FitsIn}
use Rattle.lf_codec.proofs.EachKind.{log_within}
use Rattle.lf_codec.proofs.TraceLaws.{trace_is_read}
use Rattle.lf_logs.specs.Lists.{logs_of}
use Rattle.wave_signals.specs.Wave.{undrawn, wave_from}
use Rattle.wave_draw.specs.Laws.{OrdersTakeInOrder, YesIsDrawnInItsOrder}
use Rattle.wave_order.specs.Ordered.{without_next, in_order, left_by, drawn_of}
use Rattle.wave_draw.specs.Viewing.{head_in}
use Rattle.wave_order.proofs.Ordered.{begins, leaves}
use Rattle.wave_draw.proofs.Waiting.{one_less, none_left}

-- a log that has a record is one of the logs
is_there : (logs : List (List Record)) (log : ℕ) (x : Record) (rest : List Record) → log_at logs log ≡ x ∷ rest →
    log < length logs
is_there logs log x rest some =
    elim (cases_lt log (length logs)) [
      | inl within ↦ within
      | inr beyond ↦ let none : x ∷ rest ≡ [] = sym some ∙ get_or_past logs log [] beyond in absurd cc
    ]

pub takes_all : (order : List ℕ) (logs : List (List Record)) (records taken : List Record) → Interleaves logs records
    → Takes logs order taken → (in_order order records ≡ taken) × (left_by order records ≡ [])
takes_all [] logs records [] are takes = (refl, none_left logs records takes are)
takes_all [] logs records (x ∷ taken) are takes = absurd takes
takes_all (log ∷ order) logs records [] are takes = absurd takes
takes_all (log ∷ order) logs records (x ∷ taken) are takes =
    let rest = drop 1 (log_at logs log) in
    let some : of_log log records ≡ x ∷ rest = are.each log ∙ takes.0 in
    let later = takes_all order (after_next logs log) (without_next log records) taken
    (one_less logs records log rest (is_there logs log x rest takes.0) refl are) takes.1 in (
      begins log order records x rest some ∙ ap (λ (l : List Record). x ∷ l) later.0,
      leaves log order records x rest some ∙ later.1,
    )

-- the order has a place for each of them
pub as_long : (order : List ℕ) (logs : List (List Record)) (taken : List Record) → Takes logs order taken →
    length taken ≡ length order
as_long [] logs [] takes = refl
as_long [] logs (x ∷ taken) takes = absurd takes
as_long (log ∷ order) logs [] takes = absurd takes
as_long (log ∷ order) logs (x ∷ taken) takes = omega (arith, as_long order (after_next logs log) taken takes.1)

pub orders_take_in_order : OrdersTakeInOrder
orders_take_in_order logs records order taken are takes =
    let all = takes_all order logs records taken are takes in
    (all.0, record { all_places = ap length all.0 ∙ as_long order logs taken takes; all_records = all.1 })

-- ---- the logs of a trace

-- no record stands in a log beyond the last one
none_beyond : (h : Header) (log : ℕ) (records : List Record) → h.ports + h.banks ≤ log →
    AllByRecursion (FitsIn h) records → of_log log records ≡ []
none_beyond h log [] beyond fit = refl
none_beyond h log (r ∷ records) beyond fit =
    let within = log_within h.ports h.banks r.bank r.number r.log r.event fit.0.fits.bank fit.0.fits.log in
    elim (cases_Bool (r.log == log)) [
      | inl is ↦ absurd (omega (arith, within, beyond, eqb-true r.log log is))
      | inr is ↦ cond-false (r.log == log) (r ∷ of_log log records) (of_log log records) is
          ∙ none_beyond h log records beyond fit.1
    ]

-- the logs of a trace have its records
logs_have : (h : Header) (records : List Record) → AllByRecursion (FitsIn h) records →
    Interleaves (logs_of (h.ports + h.banks) records) records
logs_have h records fit = record {
  each = λ log.
      elim (cases_lt log (h.ports + h.banks)) [
        | inl within ↦
            sym (get_or-map-range_with_len (λ l. of_log l records) 0 (h.ports + h.banks) log log [] within
            (omega arith))
        | inr beyond ↦
            let few : length (logs_of (h.ports + h.banks) records) ≤ log =
            omega (arith, length-map-range_with_len (λ l. of_log l records) 0 (h.ports + h.banks)) in
            none_beyond h log records beyond fit
            ∙ sym (get_or_past (logs_of (h.ports + h.banks) records) log [] few)
      ];
}

pub yes_in_its_order : YesIsDrawnInItsOrder
yes_in_its_order drawing order bytes h memory records interleaving named trace takes =
    let read = trace_is_read bytes h memory records trace in
    let logs = logs_of (h.ports + h.banks) records in
    let drawn : drawn_of drawing.order (reading_of bytes).records ≡ interleaving =
    ap (λ (o : Option (Vec ℕ)). drawn_of o (reading_of bytes).records) named
    ∙ ap (in_order order.items) read.3
    ∙ (takes_all order.items logs records interleaving (logs_have h records trace.fits.each) takes).0 in
    ap (λ (g : Option Header). head_in drawing g
    ++ wave_from drawing.times (undrawn drawing.view) (drawn_of drawing.order (reading_of bytes).records)) read.1
    ∙ ap (λ (rs : List Record). head_in drawing (Some h) ++ wave_from drawing.times (undrawn drawing.view) rs) drawn
