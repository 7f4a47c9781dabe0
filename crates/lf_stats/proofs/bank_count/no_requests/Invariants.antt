use Rattle.std.proofs.Common.{◌≡◌, ℕ, [], length}
use Rattle.lf_stats.specs.Tally.{queue_in}
use Rattle.lf_stats.proofs.bank_count.no_requests.Given as goal

abbrev pub invariant-loop : goal.invariant-loop
invariant-loop l = record {
  len : length l.queues.items ≡ l.counter;
  empty : (port : ℕ) → queue_in l.queues.items port ≡ [];
}
