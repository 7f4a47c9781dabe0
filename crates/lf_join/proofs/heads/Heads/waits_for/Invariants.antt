use Rattle.std.proofs.Common.{◌≡◌, ◌<◌, ℕ, false}
use Rattle.lf_join.specs.Join.{skeleton_lists}
use Rattle.lf_join.specs.Heads.{holds_next}
use Rattle.lf_join.proofs.heads.Heads.waits_for.Given as goal

abbrev pub invariant-loop-other : goal.invariant-loop-other
invariant-loop-other l = (k : ℕ) → k < l.other → holds_next (skeleton_lists l.skeletons) l.self.places l.self.next
    l.bank k ≡ false
