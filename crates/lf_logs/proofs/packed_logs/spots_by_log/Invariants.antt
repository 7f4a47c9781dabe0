use Rattle.std.proofs.Common.{◌≡◌, take}
use Rattle.lf_logs.specs.Lists.{logs_of}
use Rattle.lf_logs.specs.PackedLogs.{lists_at, AreSpotsOf}
use Rattle.lf_logs.proofs.packed_logs.spots_by_log.Given as goal

abbrev pub invariant-loop-at : goal.invariant-loop-at
invariant-loop-at l = record {
  lists : lists_at l.records.records l.logs ≡ logs_of l.count (take l.at l.records.records);
  spots : AreSpotsOf l.records.records l.logs;
}
