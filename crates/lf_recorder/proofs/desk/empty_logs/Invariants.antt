use Rattle.std.proofs.Common.{◌≡◌, ◌≤◌, [], length, map, replicate, vec_capacity}
use Rattle.lf_recorder.proofs.desk.empty_logs.Given as goal

abbrev pub invariant-loop : goal.invariant-loop
invariant-loop l = record {
  logs : map (λ log. log.items) l.logs.items ≡ replicate l.counter [];
  count : length l.logs.items ≡ l.counter;
  room : l.count ≤ vec_capacity l.logs;
}
