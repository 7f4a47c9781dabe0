use Rattle.std.proofs.Common.{◌≡◌, ℕ, ◌<◌, [], false, take, get_or, length}
use Rattle.lf_logs.specs.Incomplete.{waits}
use Rattle.lf_stats.proofs.port.waits_at.Given as goal

abbrev pub invariant-loop-at : goal.invariant-loop-at
invariant-loop-at g l =
    let log = get_or (g.L.LogRecords.lists l.logs) l.port [] in
    record {
      len : length l.waits ≡ 256;
      waits : (tag : ℕ) → tag < 256 → get_or l.waits tag false ≡ waits (take l.at log) tag;
    }
