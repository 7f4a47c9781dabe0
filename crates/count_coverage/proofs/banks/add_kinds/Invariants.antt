use Rattle.std.proofs.Common.{◌≡◌, ℕ, ◌++◌, map, take}
use Rattle.std.specs.List.{filter}
use Rattle.count_coverage.specs.declared.point.BankPoint.{BankPoint}
use Rattle.count_coverage.specs.Counted.{AreCounts, tally_of}
use Rattle.count_coverage.specs.Reachable.{can_reach, kinds}
use Rattle.count_coverage.proofs.banks.add_kinds.Given as goal

abbrev pub invariant-loop-i : goal.invariant-loop-i
invariant-loop-i l =
    (count : BankPoint → ℕ) → AreCounts l.counts count
    → l.tallies.items ≡ l.initial.tallies.items
    ++ map (tally_of l.bank count) (filter (can_reach l.shape) (take l.i kinds))
