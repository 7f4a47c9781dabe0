use Rattle.std.proofs.Common.{◌≡◌}
use Rattle.std.specs.List.{slice_split}
use Rattle.text_assemble.specs.Assembly.{is_newline}
use Rattle.text_assemble.specs.Draft.{lines_in, left_in}
use Rattle.text_assemble.specs.Refusal.{line_in}
use Rattle.text_assemble.proofs.refusal.line_at.Given as goal

abbrev pub invariant-loop-rest : goal.invariant-loop-rest
invariant-loop-rest l = line_in (lines_in l.rest) l.left ≡ line_in (slice_split is_newline l.fn.text) l.fn.number

abbrev pub decreases-loop-rest : goal.decreases-loop-rest
decreases-loop-rest l = left_in l.rest
