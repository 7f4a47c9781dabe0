use Rattle.std.proofs.Common.{◌≡◌, ◌+◌, ◌≤◌, length}
use Rattle.explain_refusal.specs.Lines.{lines_in, left_in}
use Rattle.explain_refusal.specs.Keys.{key_line, key_line_in}
use Rattle.explain_refusal.proofs.lines.key_line.Given as goal

abbrev pub invariant-loop-rest : goal.invariant-loop-rest
invariant-loop-rest l = record {
  same : key_line l.place.table.now l.place.name.now l.stand l.number (lines_in l.rest)
      ≡ key_line_in l.place.table.now l.place.name.now l.fn.text;
  few : l.number + left_in l.rest ≤ length l.fn.text + 2;
}

abbrev pub decreases-loop-rest : goal.decreases-loop-rest
decreases-loop-rest l = left_in l.rest
