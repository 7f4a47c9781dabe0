-- The lines so far.
use Rattle.std.proofs.Common.{◌≡◌}
use Rattle.explain_lines.proofs.times.lines_of.Given as goal

abbrev pub invariant-loop-line : goal.invariant-loop-line
invariant-loop-line l = l.all.items ≡ l.yielded
