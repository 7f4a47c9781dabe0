use Rattle.lf_logs.specs.Places.{records_at}
use Rattle.count_coverage.specs.Standing.{standing}
use Rattle.count_coverage.specs.Points.{reached}
use Rattle.count_coverage.specs.Kept.{IsKept}
use Rattle.count_coverage.specs.Counted.{AreCounts}
use Rattle.count_coverage.proofs.counts.counted.Given as goal

abbrev pub invariant-loop-i : goal.invariant-loop-i
invariant-loop-i g l =
    let rs = records_at (g.L.LogRecords.lists l.logs) l.places in
    record {
      kept : IsKept l.kept (standing l.shape rs l.i);
      counted : AreCounts l.counts (λ point. reached l.shape rs point l.i);
    }
