use Rattle.std.proofs.Common.{[], slice_index_or}
use Rattle.lf_logs.proofs.Tallying.{Counted}
use Rattle.lf_logs.proofs.order.count_log.Given as goal

abbrev pub invariant-loop-at : goal.invariant-loop-at
invariant-loop-at g l =
    let log = slice_index_or (g.L.LogRecords.lists l.logs) l.log [] in
    Counted l.bank l.log log l.fn.tallies l.tallies l.at
