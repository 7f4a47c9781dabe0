use Rattle.std.proofs.Common.{◌≡◌, ℕ, ◌+◌, ◌<◌, ◌≤◌, cond, get_or}
use Rattle.count_coverage.specs.Points.{reaches}
use Rattle.count_coverage.specs.Counted.{kind_at}
use Rattle.count_coverage.proofs.counts.add_kinds.Given as goal

abbrev pub invariant-loop-i : goal.invariant-loop-i
invariant-loop-i l = record {
  done : (n : ℕ) → n < l.i
      → get_or l.counts n 0 ≡ get_or l.initial.counts n 0
      + cond (reaches l.shape (kind_at n) l.before l.after l.seen l.item.event) 1 0;
  rest : (n : ℕ) → l.i ≤ n → get_or l.counts n 0 ≡ get_or l.initial.counts n 0;
}
