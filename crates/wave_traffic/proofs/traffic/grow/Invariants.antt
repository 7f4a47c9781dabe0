-- There are so many flows, and each that is new is empty.
use Rattle.std.proofs.Common.{◌≡◌, ◌≤◌, ◌++◌, ◌+◌, ◌-◌, length, replicate}
use Rattle.wave_traffic.specs.Flow.{empty_flow}
use Rattle.wave_traffic.proofs.traffic.grow.Given as goal

abbrev pub invariant-loop : goal.invariant-loop
invariant-loop l = record {
  count : length l.banks.items ≡ l.counter;
  enough : l.bank + 1 ≤ length l.initial.banks.items → l.counter ≡ length l.initial.banks.items;
  same : l.banks.items ≡ l.initial.banks.items ++ replicate (l.counter - length l.initial.banks.items) empty_flow;
}
