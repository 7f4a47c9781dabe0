use Rattle.std.proofs.Common.{◌≡◌, ◌<◌, ℕ, None}
use Rattle.lf_join.specs.Join.{skeleton_lists}
use Rattle.lf_join.specs.Heads.{next_entry}
use Rattle.lf_join.proofs.heads.Heads.first_left.Given as goal

abbrev pub invariant-loop-first : goal.invariant-loop-first
invariant-loop-first l = (k : ℕ) → k < l.first → next_entry (skeleton_lists l.skeletons) l.self.places k ≡ None
