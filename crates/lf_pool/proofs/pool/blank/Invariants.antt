use Rattle.std.proofs.Common.{◌≡◌, ◌≤◌, length, replicate, None, vec_capacity}
use Rattle.lf_pool.proofs.pool.blank.Given as goal

abbrev pub invariant-loop : goal.invariant-loop
invariant-loop l = record {
  outcomes : l.outcomes.items ≡ replicate l.counter None;
  count : length l.outcomes.items ≡ l.counter;
  room : l.count ≤ vec_capacity l.outcomes;
}
