use Rattle.std.proofs.Common.{◌≡◌, ℕ, ◌+◌, ◌<◌, List, [], ◌∷◌, ◌++◌, Some, cond, map, length, get_or, sym, ap, ◌∙◌}
use Rattle.std.proofs.Common.{arith}
use Rattle.std.specs.List.{slice_get, range_with_len}
use Rattle.std.specs.Global.{Vec}
use Rattle.std.proofs.lemmas.List.FromFn.{map-range_with_len_more}
use Rattle.lf_rules.specs.declared.event.Record.{Record}
use Rattle.lf_logs.specs.Places.{record_at, records_at}
use Rattle.lf_stats.specs.Statistics.{accepts, held, held_count}
use Rattle.lf_stats.proofs.Blocks.{nowhere}
use Rattle.lf_logs.proofs.Found.{length_found, get_found}
use Rattle.lf_stats.proofs.Orders.{count_at, count_le, held_next, named_le, registers_le}
use Rattle.lf_stats.proofs.bank.held_counts.Goals as goal

abbrev lists_in : List (Vec ℕ) → List (List ℕ)
lists_in vecs = map (λ v. v.items) vecs

pub hold-requires-clause-few : goal.hold-requires-clause-few
hold-requires-clause-few g c register =
    let rs = records_at (g.L.LogRecords.lists c.args.logs.now) c.args.places.now in
    omega (
      arith,
      named_le c.loop-place.held c.args.shape.now rs c.loop-place.place-index register
          c.loop-place.invariant.held,
    )

pub count-requires : goal.count-requires
count-requires g c port h =
    let rs = records_at (g.L.LogRecords.lists c.args.logs.now) c.args.places.now in
    omega (
      arith,
      c.loop-place.invariant.accepted port h,
      count_le (λ r. accepts port r.event) rs
          c.loop-place.place-index,
    )

pub distinct-requires : goal.distinct-requires
distinct-requires g c =
    let shape = c.args.shape.now in
    let rs : List Record = records_at (g.L.LogRecords.lists c.args.logs.now) c.args.places.now in
    let n = c.loop-place.place-index in
    let item = c.lend.new.room in
    let at_rs : slice_get rs n ≡ Some item =
    get_found (record_at (g.L.LogRecords.lists c.args.logs.now)) c.args.places.now n nowhere c.requires.named
    c.loop-place-test.true ∙ c.lend.ensures in
    let issues = λ (port : ℕ) (h : port < 256).
    ap (λ (v : List (Vec ℕ)). get_or (lists_in v) port []) c.as_slice.ensures.value
    ∙ c.in_ok-issued.ensures.issued port h in
    let now = held_next shape rs n item at_rs _ c.event-event.ensures.shown c.as_slice.result.now
    c.loop-place.accepted.counts issues c.loop-place.invariant.accepted
    c.loop-place.held c.hold.new.held c.in_ok-hold.ensures c.loop-place.invariant.held in
    record { few = omega (arith, registers_le c.hold.new.held shape rs (n + 1) now) }

pub loop-place-preserved : goal.loop-place-preserved
loop-place-preserved g c =
    let shape = c.args.shape.now in
    let rs : List Record = records_at (g.L.LogRecords.lists c.args.logs.now) c.args.places.now in
    let n = c.loop-place.place-index in
    let item = c.lend.new.room in
    let at_rs : slice_get rs n ≡ Some item =
    get_found (record_at (g.L.LogRecords.lists c.args.logs.now)) c.args.places.now n nowhere c.requires.named
    c.loop-place-test.true ∙ c.lend.ensures in
    let issues = λ (port : ℕ) (h : port < 256).
    ap (λ (v : List (Vec ℕ)). get_or (lists_in v) port []) c.as_slice.ensures.value
    ∙ c.in_ok-issued.ensures.issued port h in
    let now = held_next shape rs n item at_rs _ c.event-event.ensures.shown c.as_slice.result.now
    c.loop-place.accepted.counts issues c.loop-place.invariant.accepted
    c.loop-place.held c.hold.new.held c.in_ok-hold.ensures c.loop-place.invariant.held in
    let count : c.distinct.result ≡ held_count shape rs (n + 1) = c.distinct.ensures (held shape rs (n + 1)) now in
    record {
      accepted = λ port h.
          c.count.ensures port h
          ∙ ap (λ e. get_or c.loop-place.accepted.counts port 0 + cond (accepts port e) 1 0) c.event-event.ensures.shown
          ∙ ap (λ k. k + cond (accepts port item.event) 1 0) (c.loop-place.invariant.accepted port h)
          ∙ sym (count_at (λ (r : Record). accepts port r.event) rs n item at_rs);
      held = now;
      counts =
          c.in_ok-push.ensures.items
          ∙ ap (λ (before : List ℕ). before ++ c.distinct.result ∷ []) c.loop-place.invariant.counts
          ∙ ap (λ (k : ℕ). map (held_count shape rs) (range_with_len 0 (n + 1)) ++ k ∷ []) count
          ∙ sym (map-range_with_len_more (held_count shape rs) 0 (n + 1) (n + 1) (omega arith));
    }

pub returns : goal.returns
returns g c =
    let shape = c.args.shape.now in
    let rs : List Record = records_at (g.L.LogRecords.lists c.args.logs.now) c.args.places.now in
    let n = c.loop-place.place-index in
    let long : length rs ≡ length c.args.places.now = length_found (record_at (g.L.LogRecords.lists c.args.logs.now))
    c.args.places.now c.requires.named in
    let here : n ≡ length rs = omega (arith, c.loop-place-test.false, long) in
    c.loop-place.invariant.counts ∙ ap (λ k. map (held_count shape rs) (range_with_len 0 (k + 1))) here
