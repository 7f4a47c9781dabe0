use Rattle.std.proofs.Common.{◌≡◌, ℕ, ◌+◌, ◌<◌, List, [], Some, cond, max, Bool, map, length, take, get_or, sym, ap}
use Rattle.std.proofs.Common.{◌∙◌, arith}
use Rattle.std.specs.List.{slice_get}
use Rattle.std.specs.Global.{Vec}
use Rattle.std.proofs.lemmas.List.{take_all}
use Rattle.lf_rules.specs.declared.event.Event.{Event}
use Rattle.lf_rules.specs.declared.event.Record.{Record}
use Rattle.lf_logs.specs.Places.{record_at, records_at}
use Rattle.lf_stats.specs.Statistics.{accepts, held, held_count, greatest, kinds, is_hit, is_primary, is_merge}
use Rattle.lf_stats.specs.Statistics.{is_stall}
use Rattle.lf_stats.proofs.Blocks.{nowhere}
use Rattle.lf_logs.proofs.Found.{length_found, get_found}
use Rattle.lf_stats.proofs.Orders.{count_at, count_le, greatest_at, held_next, named_le}
use Rattle.lf_stats.proofs.Orders.{registers_le}
use Rattle.lf_stats.proofs.bank.bank_stats.Goals as goal

abbrev lists_in : List (Vec ℕ) → List (List ℕ)
lists_in vecs = map (λ v. v.items) vecs

pub hold-requires-clause-few : goal.hold-requires-clause-few
hold-requires-clause-few g c register =
    let rs = records_at (g.L.LogRecords.lists c.args.logs.now) c.args.places.now in
    omega (
      arith,
      named_le c.loop-place.held c.args.shape.now rs c.loop-place.place-index register
          c.loop-place.invariant.held,
    )

pub count-requires : goal.count-requires
count-requires g c port h =
    let rs = records_at (g.L.LogRecords.lists c.args.logs.now) c.args.places.now in
    omega (
      arith,
      c.loop-place.invariant.accepted port h,
      count_le (λ r. accepts port r.event) rs
          c.loop-place.place-index,
    )

pub distinct-requires : goal.distinct-requires
distinct-requires g c =
    let shape = c.args.shape.now in
    let rs : List Record = records_at (g.L.LogRecords.lists c.args.logs.now) c.args.places.now in
    let n = c.loop-place.place-index in
    let item = c.lend.new.room in
    let at_rs : slice_get rs n ≡ Some item =
    get_found (record_at (g.L.LogRecords.lists c.args.logs.now)) c.args.places.now n nowhere c.requires.named
    c.loop-place-test.true ∙ c.lend.ensures in
    let issues = λ (port : ℕ) (h : port < 256).
    ap (λ (v : List (Vec ℕ)). get_or (lists_in v) port []) c.as_slice.ensures.value
    ∙ c.in_ok-issued.ensures.issued port h in
    let now = held_next shape rs n item at_rs _ c.event-event.ensures.shown c.as_slice.result.now
    c.loop-place.accepted.counts issues c.loop-place.invariant.accepted
    c.loop-place.held c.hold.new.held c.in_ok-hold.ensures c.loop-place.invariant.held in
    record { few = omega (arith, registers_le c.hold.new.held shape rs (n + 1) now) }

pub loop-place-preserved : goal.loop-place-preserved
loop-place-preserved g c =
    let shape = c.args.shape.now in
    let rs : List Record = records_at (g.L.LogRecords.lists c.args.logs.now) c.args.places.now in
    let n = c.loop-place.place-index in
    let item = c.lend.new.room in
    let at_rs : slice_get rs n ≡ Some item =
    get_found (record_at (g.L.LogRecords.lists c.args.logs.now)) c.args.places.now n nowhere c.requires.named
    c.loop-place-test.true ∙ c.lend.ensures in
    let issues = λ (port : ℕ) (h : port < 256).
    ap (λ (v : List (Vec ℕ)). get_or (lists_in v) port []) c.as_slice.ensures.value
    ∙ c.in_ok-issued.ensures.issued port h in
    let now = held_next shape rs n item at_rs _ c.event-event.ensures.shown c.as_slice.result.now
    c.loop-place.accepted.counts issues c.loop-place.invariant.accepted
    c.loop-place.held c.hold.new.held c.in_ok-hold.ensures c.loop-place.invariant.held in
    let one_more = λ (kind : Event → Bool). sym (count_at (λ (r : Record). kind r.event) rs n item at_rs) in
    let is_one = λ (kind : Event → Bool) (n : ℕ). ap (λ e. n + cond (kind e) 1 0) c.event-event.ensures.shown in
    let counted = c.count-in-loop-place.ensures in
    record {
      accepted = λ port h.
          c.count.ensures port h
          ∙ ap (λ e. get_or c.loop-place.accepted.counts port 0 + cond (accepts port e) 1 0) c.event-event.ensures.shown
          ∙ ap (λ k. k + cond (accepts port item.event) 1 0) (c.loop-place.invariant.accepted port h)
          ∙ one_more (accepts port);
      held = now;
      hits = counted.hits ∙ is_one is_hit c.loop-place.stats.hits
          ∙ ap (λ k. k + cond (is_hit item.event) 1 0) c.loop-place.invariant.hits ∙ one_more is_hit;
      primary = counted.primary ∙ is_one is_primary c.loop-place.stats.primary
          ∙ ap (λ k. k + cond (is_primary item.event) 1 0) c.loop-place.invariant.primary ∙ one_more is_primary;
      merges = counted.merges ∙ is_one is_merge c.loop-place.stats.merges
          ∙ ap (λ k. k + cond (is_merge item.event) 1 0) c.loop-place.invariant.merges ∙ one_more is_merge;
      stalls = counted.stalls ∙ is_one is_stall c.loop-place.stats.stalls
          ∙ ap (λ k. k + cond (is_stall item.event) 1 0) c.loop-place.invariant.stalls ∙ one_more is_stall;
      peak =
          c.max.ensures
          ∙ ap (λ k. max k c.distinct.result) (counted.peak ∙ c.loop-place.invariant.peak)
          ∙ ap (λ k. max (greatest (held_count shape rs) (n + 1)) k) (c.distinct.ensures (held shape rs (n + 1)) now)
          ∙ sym (greatest_at (held_count shape rs) (n + 1));
    }

pub returns : goal.returns
returns g c =
    let shape = c.args.shape.now in
    let rs : List Record = records_at (g.L.LogRecords.lists c.args.logs.now) c.args.places.now in
    let n = c.loop-place.place-index in
    let long : length rs ≡ length c.args.places.now = length_found (record_at (g.L.LogRecords.lists c.args.logs.now))
    c.args.places.now c.requires.named in
    let here : n ≡ length rs = omega (arith, c.loop-place-test.false, long) in
    let all : take n rs ≡ rs = take_all n rs (omega arith) in
    λ i. record {
      hits = (c.loop-place.invariant.hits ∙ ap (kinds is_hit) all) i;
      primary = (c.loop-place.invariant.primary ∙ ap (kinds is_primary) all) i;
      merges = (c.loop-place.invariant.merges ∙ ap (kinds is_merge) all) i;
      stalls = (c.loop-place.invariant.stalls ∙ ap (kinds is_stall) all) i;
      peak = (c.loop-place.invariant.peak ∙ ap (λ k. greatest (held_count shape rs) (k + 1)) here) i;
    }
