use Rattle.std.proofs.Common.{◌≡◌, ◌≤◌, ℕ, Bool}
use Rattle.count_coverage.specs.Standing.{pinned}
use Rattle.count_coverage.specs.Kept.{is_in}
use Rattle.count_coverage.proofs.pinned.pinned.Given as goal

abbrev pub invariant-loop-i : goal.invariant-loop-i
invariant-loop-i l = record {
  few : l.count ≤ l.i;
  counted : (has : ℕ → Bool) → ((second : ℕ) → is_in l.lines second ≡ has second)
      → l.count ≡ pinned l.set has l.waiting l.i;
}
