use Rattle.std.proofs.Common.{◌<◌, ◌-◌, length, All, IsSome}
use Rattle.lf_join.specs.Join.{skeleton_lists}
use Rattle.lf_join.specs.Heads.{IsPath, HeadsWait, next_entry}
use Rattle.lf_join.proofs.heads.Heads.walk.Given as goal

abbrev pub invariant-loop-again : goal.invariant-loop-again
invariant-loop-again l =
    IsPath (HeadsWait (skeleton_lists l.skeletons) l.self.places l.self.next) l.start l.path.items l.log
    × (All (λ log. log < length l.skeletons) l.path.items ×
    ((l.log < length l.skeletons) × IsSome (next_entry (skeleton_lists l.skeletons) l.self.places l.log)))

abbrev pub decreases-loop-again : goal.decreases-loop-again
decreases-loop-again l = 32 - length l.path.items
