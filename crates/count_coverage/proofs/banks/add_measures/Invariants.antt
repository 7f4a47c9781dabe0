use Rattle.std.proofs.Common.{◌≡◌, ℕ, ◌++◌, map, take}
use Rattle.std.specs.List.{flat_map}
use Rattle.count_coverage.specs.declared.point.BankPoint.{BankPoint}
use Rattle.count_coverage.specs.Counted.{AreCounts, tally_of}
use Rattle.count_coverage.specs.Reachable.{points_of, all_measures}
use Rattle.count_coverage.proofs.banks.add_measures.Given as goal

abbrev pub invariant-loop-measure : goal.invariant-loop-measure
invariant-loop-measure l =
    (count : BankPoint → ℕ) → AreCounts l.counts count
    → l.tallies.items ≡ l.initial.tallies.items
    ++ map (tally_of l.bank count) (flat_map (points_of l.shape) (take l.measure-index all_measures))
