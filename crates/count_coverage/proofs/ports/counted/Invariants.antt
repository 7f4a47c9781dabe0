use Rattle.std.proofs.Common.{◌≡◌, ℕ, ◌<◌, [], take, get_or}
use Rattle.count_coverage.specs.Points.{port_reached}
use Rattle.count_coverage.specs.Counted.{port_point_at}
use Rattle.count_coverage.proofs.ports.counted.Given as goal

abbrev pub invariant-loop-at : goal.invariant-loop-at
invariant-loop-at g l =
    (n : ℕ) → n < 13 → get_or l.counts n 0
    ≡ port_reached (take l.at (get_or (g.L.LogRecords.lists l.logs) l.port [])) (port_point_at n)
