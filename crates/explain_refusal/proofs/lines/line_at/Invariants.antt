use Rattle.std.proofs.Common.{◌≡◌, ◌+◌, ◌≤◌, length}
use Rattle.explain_refusal.specs.Lines.{lines_in, left_in, line_at, line_at_in}
use Rattle.explain_refusal.proofs.lines.line_at.Given as goal

abbrev pub invariant-loop-rest : goal.invariant-loop-rest
invariant-loop-rest l = record {
  same : line_at l.number l.left (lines_in l.rest) ≡ line_at_in l.fn.offset l.fn.text;
  few : l.number + left_in l.rest ≤ length l.fn.text + 2;
}

abbrev pub decreases-loop-rest : goal.decreases-loop-rest
decreases-loop-rest l = left_in l.rest
