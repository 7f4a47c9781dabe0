use Rattle.std.proofs.Common.{take}
use Rattle.lf_logs.specs.Places.{records_at}
use Rattle.count_usage.specs.Changes.{change1, change2, latest_first}
use Rattle.count_usage.specs.Standing.{IsTally}
use Rattle.count_usage.proofs.bank.bank_use.Given as goal

abbrev pub invariant-loop-place : goal.invariant-loop-place
invariant-loop-place g l =
    let rs = take l.place-index (records_at (g.L.LogRecords.lists l.logs) l.places) in
    record {
      one : IsTally l.one (latest_first (change1 l.shape) rs);
      two : IsTally l.two (latest_first (change2 l.shape) rs);
    }
