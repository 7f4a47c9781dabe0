use Rattle.std.proofs.Common.{arith}
use Rattle.std.specs.Global.{Vec}
use Rattle.lf_logs.specs.declared.packed_logs.Spot.{Spot}
use Rattle.lf_logs.proofs.PackedPlaces.{inside, is_below, found_is}
use Rattle.lf_logs.proofs.packed_logs.PackedLogsLogRecords.lend.Goals as goal

pub index-spot-requires : goal.index-spot-requires
index-spot-requires c =
    let s = c.self.inside in
    let spots : Vec Spot = c.index.result.now in
    omega (
      arith,
      inside s.records.records s.spots c.self.invariant c.args.self.now c.self.view_is c.args.place c.requires
          c.from.result c.from.ensures spots c.index.ensures,
      spots.ok.0,
    )

pub lend_view-requires : goal.lend_view-requires
lend_view-requires c =
    let s = c.self.inside in
    is_below s.records.records s.spots c.self.invariant c.args.self.now c.self.view_is c.args.place c.requires
    c.from.result c.from.ensures c.index.result.now c.index.ensures c.index-spot.result.now c.index-spot.ensures

pub returns : goal.returns
returns c =
    let s = c.self.inside in
    found_is s.records.records s.spots c.self.invariant c.args.self.now c.self.view_is c.args.place c.requires
    c.from.result c.from.ensures c.index.result.now c.index.ensures c.index-spot.result.now c.index-spot.ensures
    c.lend_view.new.place c.lend_view.ensures
