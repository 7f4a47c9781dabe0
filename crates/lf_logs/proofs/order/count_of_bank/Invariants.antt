use Rattle.std.proofs.Common.{◌≡◌, [], take, length, slice_index_or}
use Rattle.lf_rules.specs.Run.{of_bank}
use Rattle.lf_logs.proofs.order.count_of_bank.Given as goal

abbrev pub invariant-loop-at : goal.invariant-loop-at
invariant-loop-at g l =
    let log = slice_index_or (g.L.LogRecords.lists l.logs) l.log [] in
    l.count ≡ length (of_bank l.bank (take l.at log))
