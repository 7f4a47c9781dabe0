use Rattle.std.proofs.Common.{◌<◌, List, [], length, get_or, ap, arith}
use Rattle.std.specs.Global.{Vec}
use Rattle.std.proofs.lemmas.List.{length-map}
use Rattle.lf_rules.specs.declared.event.Record.{Record}
use Rattle.lf_logs.specs.declared.packed_logs.Spot.{Spot}
use Rattle.lf_logs.specs.PackedLogs.{found_at}
use Rattle.lf_logs.proofs.PackedPlaces.{length_at}
use Rattle.lf_logs.proofs.packed_logs.PackedLogsLogRecords.log_len.Goals as goal

pub returns : goal.returns
returns c =
    let s = c.self.inside in
    let rs = s.records.records in
    let inside : c.args.log < length s.spots.items = omega (
      arith,
      length-map s.spots.items (found_at rs),
      ap (λ (ls : List (List Record)). length ls) c.self.view_is,
      c.requires,
    ) in
    let spots : Vec Spot = c.index.result.now in
    omega (
      arith,
      c.len.ensures,
      spots.ok.0,
      length_at rs s.spots c.args.log spots c.self.invariant inside c.index.ensures,
      ap (λ (ls : List (List Record)). length (get_or ls c.args.log [])) c.self.view_is,
    )
