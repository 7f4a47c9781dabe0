use Rattle.std.proofs.Common.{arith}
use Rattle.std.specs.Global.{Vec}
use Rattle.lf_logs.specs.declared.packed_logs.Spot.{Spot}
use Rattle.lf_logs.proofs.PackedPlaces.{inside, names_it}
use Rattle.lf_logs.proofs.packed_logs.PackedLogsLogRecords.entry.Goals as goal

pub index-requires-2 : goal.index-requires-2
index-requires-2 c =
    let s = c.self.inside in
    let spots : Vec Spot = c.index.result.now in
    omega (
      arith,
      inside s.records.records s.spots c.self.invariant c.args.self.now c.self.view_is c.args.place c.requires
          c.from.result c.from.ensures spots c.index.ensures,
      spots.ok.0,
    )

pub returns : goal.returns
returns c =
    let s = c.self.inside in
    names_it s.records.records s.spots c.self.invariant c.args.self.now c.self.view_is c.args.place c.requires
    c.from.result c.from.ensures c.index.result.now c.index.ensures c.index-2.result.now c.index-2.ensures
