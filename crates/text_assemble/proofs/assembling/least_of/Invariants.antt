use Rattle.std.proofs.Common.{◌≡◌, ◌≤◌}
use Rattle.std.specs.Prelude.{max}
use Rattle.std.specs.List.{slice_split}
use Rattle.text_assemble.specs.Assembly.{is_newline, least_of}
use Rattle.text_assemble.specs.Draft.{lines_in, left_in}
use Rattle.text_assemble.proofs.assembling.least_of.Given as goal

abbrev pub invariant-loop-rest : goal.invariant-loop-rest
invariant-loop-rest l = record {
  so_far : max l.version (least_of (lines_in l.rest)) ≡ least_of (slice_split is_newline l.fn.text);
  some : 1 ≤ l.version;
}

abbrev pub decreases-loop-rest : goal.decreases-loop-rest
decreases-loop-rest l = left_in l.rest
