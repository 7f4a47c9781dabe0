-- What is supplied so far is what waits for the second-level block among the entries so far.
use Rattle.std.proofs.Common.{◌≡◌, ◌++◌, take, map}
use Rattle.std.specs.List.{filter}
use Rattle.wave_traffic.specs.Flow.{is_second}
use Rattle.wave_traffic.proofs.bank.supply.Given as goal

abbrev pub invariant-loop-entry : goal.invariant-loop-entry
invariant-loop-entry l = l.supplied.items ≡ l.initial.supplied.items
    ++ map (λ f. f.block) (filter (is_second l.second) (take l.entry-index l.fetched))
