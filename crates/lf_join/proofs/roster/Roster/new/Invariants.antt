use Rattle.std.proofs.Common.{◌<◌, ◌≤◌, ℕ}
use Rattle.lf_join.specs.Join.{skeleton_lists}
use Rattle.lf_join.specs.Heads.{next_entry}
use Rattle.lf_join.specs.Standings.{Nowhere, Stands, standing_of}
use Rattle.lf_join.proofs.roster.Roster.new.Given as goal

abbrev pub invariant-loop-log : goal.invariant-loop-log
invariant-loop-log l =
    ((k : ℕ) → k < l.log → Stands l.roster k (standing_of l.heads.next
    (next_entry (skeleton_lists l.skeletons) l.heads.places k))) ×
    ((k : ℕ) → k < 32 → l.log ≤ k → Stands l.roster k Nowhere)
