use Rattle.std.proofs.Common.{◌≡◌, ◌+◌, ◌<◌, List, [], ◌∷◌, ◌++◌, length, take, get_or, Some, sym, ap, ◌∙◌}
use Rattle.std.proofs.Common.{subst}
use Rattle.std.proofs.Common.{arith}
use Rattle.std.specs.List.{slice_get}
use Rattle.std.specs.Global.{Vec}
use Rattle.std.proofs.lemmas.List.{length-map, take_more}
use Rattle.std.proofs.lemmas.Option.{get_or_from_slice_get}
use Rattle.lf_rules.specs.declared.event.Record.{Record}
use Rattle.lf_logs.specs.Lists.{logs_of}
use Rattle.lf_logs.specs.declared.packed_logs.Spot.{Spot}
use Rattle.lf_logs.specs.PackedLogs.{found_at}
use Rattle.lf_logs.proofs.Found.{one_inside}
use Rattle.lf_logs.proofs.Splitting.{length-parts_of, placed_in}
use Rattle.lf_logs.proofs.PackedPlaces.{found_more, spots_more}
use Rattle.lf_logs.proofs.packed_logs.spots_by_log.Goals as goal

pub index_mut-requires : goal.index_mut-requires
index_mut-requires c =
    let rs = c.args.records.now.records in
    let at = c.loop-at.at in
    let inside : at < length rs = omega (arith, c.len-at-end.ensures, c.loop-at-test.true) in
    let one = one_inside rs at inside in
    let log : c.from-log.result ≡ (get_or rs at one.0).log = c.from-log.ensures ∙ c.log.ensures one.0 in
    omega (
      arith,
      log,
      c.requires.logs at one.0 inside,
      length-map c.loop-at.logs.items (found_at rs),
      ap (λ (ls : List (List Record)). length ls) c.loop-at.invariant.lists,
      length-parts_of (λ r. r.log) c.args.count (take at rs),
      c.loop-at.logs.ok.0,
    )

pub loop-at-preserved : goal.loop-at-preserved
loop-at-preserved c =
    let rs = c.args.records.now.records in
    let at = c.loop-at.at in
    let log = c.from-log.result in
    let old : Vec Spot = c.index_mut.result.now in
    let new : Vec Spot = c.push.new.self in
    let inside : at < length rs = omega (arith, c.len-at-end.ensures, c.loop-at-test.true) in
    let one = one_inside rs at inside in
    let item : Record = one.0 in
    let same : get_or rs at item ≡ item = get_or_from_slice_get rs at item item one.1 in
    let its_log : log ≡ item.log = c.from-log.ensures ∙ c.log.ensures item ∙ ap (λ (r : Record). r.log) same in
    let below : item.log < c.args.count =
    subst (λ (r : Record). r.log < c.args.count) same (c.requires.logs at item inside) in
    let read : old ≡ get_or c.loop-at.logs.items log old = c.index_mut.ensures.value in
    let spot : Spot = c.spot_of.result in
    let pushed : new.items ≡ old.items ++ spot ∷ [] = c.in_ok-push.ensures.items in
    let its_item : slice_get rs spot.at ≡ Some item = ap (slice_get rs) c.spot_of.ensures.at ∙ one.1 in
    let long : log < length c.loop-at.logs.items = omega (
      arith,
      its_log,
      below,
      length-map c.loop-at.logs.items (found_at rs),
      ap (λ (ls : List (List Record)). length ls) c.loop-at.invariant.lists,
      length-parts_of (λ r. r.log) c.args.count (take at rs),
    ) in
    let front : take (at + 1) rs ≡ take at rs ++ item ∷ [] =
    take_more rs at item inside ∙ ap (λ (r : Record). take at rs ++ r ∷ []) same in
    record {
      lists =
          placed_in (λ r. r.log) (found_at rs) c.loop-at.logs.items c.args.count (take at rs) item log old new its_log
          below c.loop-at.invariant.lists read (found_more rs old new spot item pushed its_item)
          ∙ ap (logs_of c.args.count) (sym front);
      spots = spots_more rs c.loop-at.logs.items log old new spot c.loop-at.invariant.spots long read pushed
          c.spot_of.ensures.spot;
    }
