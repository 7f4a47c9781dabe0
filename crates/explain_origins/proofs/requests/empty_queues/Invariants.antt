use Rattle.std.proofs.Common.{◌≡◌, ℕ, [], length}
use Rattle.explain_origins.specs.Requests.{queue_at}
use Rattle.explain_origins.proofs.requests.empty_queues.Given as goal

abbrev pub invariant-loop : goal.invariant-loop
invariant-loop l = record {
  count : length l.queues.items ≡ l.counter;
  empty : (port : ℕ) → queue_at l.queues.items port ≡ [];
}
