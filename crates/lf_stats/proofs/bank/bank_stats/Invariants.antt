use Rattle.std.proofs.Common.{◌≡◌, ◌+◌, ℕ, ◌<◌, take, get_or}
use Rattle.lf_logs.specs.Places.{records_at}
use Rattle.lf_stats.specs.Standing.{IsHeld}
use Rattle.lf_stats.specs.Statistics.{accepted, held, held_count, greatest, kinds, is_hit, is_primary, is_merge}
use Rattle.lf_stats.specs.Statistics.{is_stall}
use Rattle.lf_stats.proofs.bank.bank_stats.Given as goal

abbrev pub invariant-loop-place : goal.invariant-loop-place
invariant-loop-place g l =
    let rs = records_at (g.L.LogRecords.lists l.logs) l.places in
    record {
      accepted : (port : ℕ) → port < 256 → get_or l.accepted.counts port 0 ≡ accepted port (take l.place-index rs);
      held : IsHeld l.held (held l.shape rs l.place-index);
      hits : l.stats.hits ≡ kinds is_hit (take l.place-index rs);
      primary : l.stats.primary ≡ kinds is_primary (take l.place-index rs);
      merges : l.stats.merges ≡ kinds is_merge (take l.place-index rs);
      stalls : l.stats.stalls ≡ kinds is_stall (take l.place-index rs);
      peak : l.stats.peak ≡ greatest (held_count l.shape rs) (l.place-index + 1);
    }
