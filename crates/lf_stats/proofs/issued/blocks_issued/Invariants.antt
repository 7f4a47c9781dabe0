use Rattle.std.proofs.Common.{◌≡◌, ℕ, ◌<◌, [], take, length, get_or}
use Rattle.lf_rules.specs.Lists.{lists_of}
use Rattle.lf_logs.specs.Places.{records_at}
use Rattle.lf_stats.specs.Statistics.{issued}
use Rattle.lf_stats.proofs.issued.blocks_issued.Given as goal

abbrev pub invariant-loop-place : goal.invariant-loop-place
invariant-loop-place g l = record {
  len : length l.lists.items ≡ 256;
  issued : (port : ℕ) → port < 256
      → get_or (lists_of l.lists) port [] ≡ issued l.shape port
      (records_at (g.L.LogRecords.lists l.logs) (take l.place-index l.places));
}
