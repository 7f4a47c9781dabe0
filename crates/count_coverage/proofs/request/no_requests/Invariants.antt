use Rattle.std.proofs.Common.{◌≡◌, ℕ, None, length, get_or}
use Rattle.count_coverage.proofs.request.no_requests.Given as goal

abbrev pub invariant-loop : goal.invariant-loop
invariant-loop l = record {
  len : length l.requests.items ≡ l.counter;
  none : (place : ℕ) → get_or l.requests.items place None ≡ None;
}
