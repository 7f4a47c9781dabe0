use Rattle.std.proofs.Common.{◌≡◌, ◌==◌, ◌++◌, take}
use Rattle.std.specs.List.{filter}
use Rattle.count_coverage.specs.declared.supply.Asked.{Asked}
use Rattle.count_coverage.proofs.supply.supply.Given as goal

abbrev pub invariant-loop-asked : goal.invariant-loop-asked
invariant-loop-asked l =
    l.supplied.items ≡ l.initial.supplied.items
    ++ filter (λ (asked : Asked). asked.second == l.second) (take l.asked-index l.waiting)
