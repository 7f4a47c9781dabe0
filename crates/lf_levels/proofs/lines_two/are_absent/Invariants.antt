use Rattle.std.proofs.Common.{◌≡◌, ◌+◌, ◌*◌, ℕ, ◌<◌, false}
use Rattle.lf_rules.specs.Lines.{has_line}
use Rattle.lf_levels.proofs.lines_two.are_absent.Given as goal

abbrev pub invariant-loop-place : goal.invariant-loop-place
invariant-loop-place l = (k : ℕ) → k < l.place → has_line l.inner.lines (l.second * l.factor + k) ≡ false
