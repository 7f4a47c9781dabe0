use Rattle.std.proofs.Common.{◌-◌, length}
use Rattle.lf_join.specs.Join.{skeleton_lists}
use Rattle.lf_join.specs.Standings.{AllStand}
use Rattle.lf_join.proofs.Merge.{Ongoing, count, any_entry, joined}
use Rattle.lf_join.proofs.order.merged.Given as goal

abbrev pub invariant-loop-log : goal.invariant-loop-log
invariant-loop-log l = Ongoing (skeleton_lists l.skeletons) l.order.items l.heads.places l.heads.next ×
    AllStand (skeleton_lists l.skeletons) l.heads.places l.heads.next l.roster

abbrev pub decreases-loop-log : goal.decreases-loop-log
decreases-loop-log l = count any_entry (joined (skeleton_lists l.skeletons)) - length l.order.items
