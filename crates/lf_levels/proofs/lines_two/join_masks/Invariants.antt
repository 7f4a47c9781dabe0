use Rattle.lf_levels.proofs.Joined.{IsJoinedTo}
use Rattle.lf_levels.proofs.lines_two.join_masks.Given as goal

abbrev pub invariant-loop-i : goal.invariant-loop-i
invariant-loop-i l = IsJoinedTo l.fn.masks.items l.others.items l.masks.items l.i
