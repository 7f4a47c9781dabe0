use Rattle.std.proofs.Common.{ℕ, ◌+◌, ◌%◌, ◌<◌, length}
use Rattle.lf_rules.specs.Ring.{IsWait, knot_at}
use Rattle.lf_join.specs.Join.{skeleton_lists}
use Rattle.lf_join.proofs.check.check_cycle.Given as goal

abbrev pub invariant-loop-j : goal.invariant-loop-j
invariant-loop-j l = (k : ℕ) → k < l.j → IsWait (skeleton_lists l.skeletons) (knot_at l.ring.items k)
    (knot_at l.ring.items ((k + 1) % length l.ring.items))
