use Rattle.std.proofs.Common.{◌≡◌, List, ◌∷◌, Some, length, take, sym, ap, ◌∙◌, subst, arith}
use Rattle.std.specs.List.{slice_get}
use Rattle.std.proofs.lemmas.List.{take_all}
use Rattle.lf_rules.specs.declared.event.Record.{Record}
use Rattle.lf_rules.specs.declared.shape.Shape.{Shape}
use Rattle.lf_logs.specs.Places.{record_at, records_at}
use Rattle.lf_stats.proofs.Blocks.{nowhere}
use Rattle.lf_logs.proofs.Found.{length_found, get_found}
use Rattle.count_usage.specs.declared.change.Change.{Change}
use Rattle.count_usage.specs.Changes.{change1, change2, latest_first}
use Rattle.count_usage.specs.Usage.{level_use}
use Rattle.count_usage.specs.Standing.{IsTally}
use Rattle.count_usage.proofs.Latest.{latest_next, latest_le}
use Rattle.count_usage.proofs.bank.bank_use.Goals as goal

pub note-requires : goal.note-requires
note-requires g c =
    let rs : List Record = records_at (g.L.LogRecords.lists c.args.logs.now) c.args.places.now in
    let n = c.loop-place.place-index in
    let change = change1 c.args.shape.now in
    record {
      few = (
        latest_first change (take n rs),
        c.loop-place.invariant.one,
        omega
            (arith, latest_le change rs n, c.loop-place-test.true, c.requires.few),
      );
    }

pub note-requires-in-loop-place : goal.note-requires-in-loop-place
note-requires-in-loop-place g c =
    let rs : List Record = records_at (g.L.LogRecords.lists c.args.logs.now) c.args.places.now in
    let n = c.loop-place.place-index in
    let change = change2 c.args.shape.now in
    record {
      few = (
        latest_first change (take n rs),
        c.loop-place.invariant.two,
        omega
            (arith, latest_le change rs n, c.loop-place-test.true, c.requires.few),
      );
    }

pub loop-place-preserved : goal.loop-place-preserved
loop-place-preserved g c =
    let shape : Shape = c.args.shape.now in
    let rs : List Record = records_at (g.L.LogRecords.lists c.args.logs.now) c.args.places.now in
    let n = c.loop-place.place-index in
    let item = c.lend.new.room in
    let at_rs : slice_get rs n ≡ Some item =
    get_found (record_at (g.L.LogRecords.lists c.args.logs.now)) c.args.places.now n nowhere c.requires.named
    c.loop-place-test.true ∙ c.lend.ensures in
    let before1 = latest_first (change1 shape) (take n rs) in
    let before2 = latest_first (change2 shape) (take n rs) in
    record {
      one = subst (λ (cs : List Change). IsTally c.note.new.self cs)
          (ap (λ (change : Change). change ∷ before1)
          (c.change1.ensures ∙ ap (change1 shape) c.event-event.ensures.shown)
          ∙ sym (latest_next (change1 shape) rs n item at_rs))
          (c.in_ok-note.ensures before1 c.loop-place.invariant.one);
      two = subst (λ (cs : List Change). IsTally c.note-in-loop-place.new.self cs)
          (ap (λ (change : Change). change ∷ before2)
          (c.change2.ensures ∙ ap (change2 shape) c.event-event.ensures.shown)
          ∙ sym (latest_next (change2 shape) rs n item at_rs))
          (c.in_ok-note-2.ensures before2 c.loop-place.invariant.two);
    }

pub returns : goal.returns
returns g c =
    let shape : Shape = c.args.shape.now in
    let rs : List Record = records_at (g.L.LogRecords.lists c.args.logs.now) c.args.places.now in
    let n = c.loop-place.place-index in
    let long : length rs ≡ length c.args.places.now = length_found (record_at (g.L.LogRecords.lists c.args.logs.now))
    c.args.places.now c.requires.named in
    let all : take n rs ≡ rs = take_all n rs (omega (arith, c.loop-place-test.false, long)) in
    λ i. record {
      level1 = (c.loop-place.invariant.one.most ∙ ap (λ (rs : List Record). level_use
          (latest_first (change1 shape) rs)) all) i;
      level2 = (c.loop-place.invariant.two.most ∙ ap (λ (rs : List Record). level_use
          (latest_first (change2 shape) rs)) all) i;
    }
