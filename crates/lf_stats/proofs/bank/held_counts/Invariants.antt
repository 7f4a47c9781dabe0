use Rattle.std.proofs.Common.{◌≡◌, ◌+◌, ℕ, ◌<◌, map, take, get_or}
use Rattle.std.specs.List.{range_with_len}
use Rattle.lf_logs.specs.Places.{records_at}
use Rattle.lf_stats.specs.Standing.{IsHeld}
use Rattle.lf_stats.specs.Statistics.{accepted, held, held_count}
use Rattle.lf_stats.proofs.bank.held_counts.Given as goal

abbrev pub invariant-loop-place : goal.invariant-loop-place
invariant-loop-place g l =
    let rs = records_at (g.L.LogRecords.lists l.logs) l.places in
    record {
      accepted : (port : ℕ) → port < 256 → get_or l.accepted.counts port 0 ≡ accepted port (take l.place-index rs);
      held : IsHeld l.held (held l.shape rs l.place-index);
      counts : l.counts.items ≡ map (held_count l.shape rs) (range_with_len 0 (l.place-index + 1));
    }
