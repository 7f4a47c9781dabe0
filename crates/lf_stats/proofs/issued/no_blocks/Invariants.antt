use Rattle.std.proofs.Common.{◌≡◌, ℕ, [], length, get_or}
use Rattle.lf_rules.specs.Lists.{lists_of}
use Rattle.lf_stats.proofs.issued.no_blocks.Given as goal

abbrev pub invariant-loop : goal.invariant-loop
invariant-loop l = record {
  len : length l.lists.items ≡ l.counter;
  empty : (port : ℕ) → get_or (lists_of l.lists) port [] ≡ [];
}
