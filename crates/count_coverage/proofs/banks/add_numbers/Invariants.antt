use Rattle.std.proofs.Common.{◌≡◌, ℕ, ◌<◌, ◌++◌, map, get_or}
use Rattle.std.specs.List.{filter, range_with_len}
use Rattle.count_coverage.specs.declared.point.BankPoint.{BankPoint}
use Rattle.count_coverage.specs.declared.point.BankPoint.TheVariants.{Numbered}
use Rattle.count_coverage.specs.Counted.{tally_of}
use Rattle.count_coverage.specs.Reachable.{can_reach}
use Rattle.count_coverage.proofs.banks.add_numbers.Given as goal

abbrev pub invariant-loop-number : goal.invariant-loop-number
invariant-loop-number l =
    (count : BankPoint → ℕ) → ((n : ℕ) → n < 65 → get_or l.counts n 0 ≡ count (Numbered l.measure n))
    → l.tallies.items ≡ l.initial.tallies.items
    ++ map (tally_of l.bank count) (filter (can_reach l.shape) (map (Numbered l.measure) (range_with_len 0 l.number)))
