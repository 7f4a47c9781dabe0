use Rattle.std.proofs.Common.{◌≡◌, ℕ, ◌+◌, ◌<◌, List, Some, length, get_or, sym, ap, ◌∙◌, subst, arith}
use Rattle.std.specs.List.{slice_get}
use Rattle.std.proofs.lemmas.List.FromFn.{length-map-range_with_len, get_or-map-range_with_len}
use Rattle.lf_rules.specs.declared.event.Record.{Record}
use Rattle.lf_logs.specs.Places.{record_at, records_at}
use Rattle.lf_stats.specs.Statistics.{held_count}
use Rattle.lf_stats.proofs.Blocks.{nowhere}
use Rattle.lf_logs.proofs.Found.{length_found, get_found}
use Rattle.count_coverage.specs.Standing.{standing}
use Rattle.count_coverage.specs.Sights.{sight}
use Rattle.count_coverage.specs.Points.{reached}
use Rattle.count_coverage.specs.Kept.{IsKept}
use Rattle.count_coverage.specs.Counted.{AreCounts}
use Rattle.count_coverage.proofs.Counting.{few_reached, counted_next}
use Rattle.count_coverage.proofs.Standings.{waiting_le, waiting2_le, standing_at, sight_at}
use Rattle.count_coverage.proofs.counts.counted.Goals as goal

pub bounds-held-i : goal.bounds-held-i
bounds-held-i g c =
    let rs : List Record = records_at (g.L.LogRecords.lists c.args.logs.now) c.args.places.now in
    let long : length rs ≡ length c.args.places.now = length_found (record_at (g.L.LogRecords.lists c.args.logs.now))
    c.args.places.now c.requires.named in
    omega (
      arith,
      ap length c.requires.held,
      length-map-range_with_len (held_count c.args.shape.now rs) 0
          (length rs + 1),
      long,
    )

pub bounds-held-i-in-loop-i : goal.bounds-held-i-in-loop-i
bounds-held-i-in-loop-i g c =
    let rs : List Record = records_at (g.L.LogRecords.lists c.args.logs.now) c.args.places.now in
    let long : length rs ≡ length c.args.places.now = length_found (record_at (g.L.LogRecords.lists c.args.logs.now))
    c.args.places.now c.requires.named in
    omega (
      arith,
      ap length c.requires.held,
      length-map-range_with_len (held_count c.args.shape.now rs) 0
          (length rs + 1),
      long,
    )

pub sight-seen-requires-clause-few : goal.sight-seen-requires-clause-few
sight-seen-requires-clause-few g c =
    let rs : List Record = records_at (g.L.LogRecords.lists c.args.logs.now) c.args.places.now in
    omega (
      arith,
      ap length c.loop-i.invariant.kept.waiting,
      waiting_le c.args.shape.now rs c.loop-i.i,
      c.loop-i-test.true,
      c.requires.few,
    )

pub sight-seen-requires-clause-few2 : goal.sight-seen-requires-clause-few2
sight-seen-requires-clause-few2 g c =
    let rs : List Record = records_at (g.L.LogRecords.lists c.args.logs.now) c.args.places.now in
    omega (
      arith,
      ap length c.loop-i.invariant.kept.waiting2,
      waiting2_le c.args.shape.now rs c.loop-i.i,
      c.loop-i-test.true,
      c.requires.few,
    )

pub count-requires-clause-few : goal.count-requires-clause-few
count-requires-clause-few g c =
    let rs : List Record = records_at (g.L.LogRecords.lists c.args.logs.now) c.args.places.now in
    few_reached c.args.shape.now rs c.loop-i.i c.loop-i.counts (omega (arith, c.loop-i-test.true, c.requires.few))
    c.loop-i.invariant.counted

pub loop-i-preserved : goal.loop-i-preserved
loop-i-preserved g c =
    let shape = c.args.shape.now in
    let rs : List Record = records_at (g.L.LogRecords.lists c.args.logs.now) c.args.places.now in
    let n = c.loop-i.i in
    let item = c.lend.new.room in
    let at_rs : slice_get rs n ≡ Some item =
    get_found (record_at (g.L.LogRecords.lists c.args.logs.now)) c.args.places.now n nowhere c.requires.named
    c.loop-i-test.true
    ∙ c.lend.ensures in
    let long : length rs ≡ length c.args.places.now = length_found (record_at (g.L.LogRecords.lists c.args.logs.now))
    c.args.places.now c.requires.named in
    let held = λ (k : ℕ) (inside : k < length rs + 1).
    ap (λ (xs : List ℕ). get_or xs k 0) c.requires.held
    ∙ get_or-map-range_with_len (held_count shape rs) 0 (length rs + 1) k k 0 inside (omega arith) in
    let seen : c.sight-seen.result ≡ sight shape rs n =
    c.sight-seen.ensures (standing shape rs n) c.loop-i.invariant.kept ∙ sym (sight_at shape rs n item at_rs) in
    record {
      kept = subst (IsKept c.take.new.self) (sym (standing_at shape rs n item at_rs))
          (c.in_ok-take.ensures (standing shape rs n) c.loop-i.invariant.kept);
      counted = counted_next shape rs n item _ _ _ c.loop-i.counts c.count.new.self at_rs
          (held n (omega (arith, long))) (held (n + 1) (omega (arith, long))) seen c.count.ensures
          c.loop-i.invariant.counted;
    }

pub returns : goal.returns
returns g c =
    let shape = c.args.shape.now in
    let rs : List Record = records_at (g.L.LogRecords.lists c.args.logs.now) c.args.places.now in
    let long : length rs ≡ length c.args.places.now = length_found (record_at (g.L.LogRecords.lists c.args.logs.now))
    c.args.places.now c.requires.named in
    let here : c.loop-i.i ≡ length rs = omega (arith, c.loop-i-test.false, long) in
    subst (λ (k : ℕ). AreCounts c.loop-i.counts (λ point. reached shape rs point k)) here c.loop-i.invariant.counted
