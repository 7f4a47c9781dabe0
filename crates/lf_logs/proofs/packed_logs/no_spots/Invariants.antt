use Rattle.std.proofs.Common.{◌≡◌, List, []}
use Rattle.lf_rules.specs.declared.event.Record.{Record}
use Rattle.lf_logs.specs.Lists.{logs_of}
use Rattle.lf_logs.specs.PackedLogs.{lists_at, AreSpotsOf}
use Rattle.lf_logs.proofs.packed_logs.no_spots.Given as goal

abbrev pub invariant-loop : goal.invariant-loop
invariant-loop l = record {
  lists : (rs : List Record) → lists_at rs l.logs ≡ logs_of l.counter [];
  spots : (rs : List Record) → AreSpotsOf rs l.logs;
}
