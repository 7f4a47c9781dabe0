use Rattle.std.proofs.Common.{◌≡◌, ◌+◌, ◌≤◌, length}
use Rattle.std.specs.List.{slice_split}
use Rattle.text_assemble.specs.Assembly.{assembled, is_newline}
use Rattle.text_assemble.specs.Draft.{IsDraft, lines_in, left_in}
use Rattle.text_assemble.proofs.assembling.add_lines.Given as goal

abbrev pub invariant-loop-rest : goal.invariant-loop-rest
invariant-loop-rest l =
    IsDraft l.draft
    × (assembled l.draft.due l.draft.defaults l.draft.bytes.items l.number (lines_in l.rest)
    ≡ assembled l.fn.draft.due l.fn.draft.defaults l.fn.draft.bytes.items 0 (slice_split is_newline l.fn.text))
    × (l.number + left_in l.rest ≤ length l.fn.text + 1)

abbrev pub decreases-loop-rest : goal.decreases-loop-rest
decreases-loop-rest l = left_in l.rest
