use Rattle.std.specs.Prelude.{◌≡◌, ◌≢◌, ℕ, ◌<◌, ◌≤◌, true}
use Rattle.lf_join.specs.Heads.{next_entry, can_go}
use Rattle.lf_join.specs.Join.{skeleton_lists}
use Rattle.lf_join.specs.RunOn.{ahead_of, RunsOn}
use Rattle.lf_join.specs.Standings.{Nowhere, Stands, standing_of}
use Rattle.lf_join.proofs.progress.Progress.let_go.Given as goal

abbrev pub invariant-loop-bank : goal.invariant-loop-bank
invariant-loop-bank l = record {
  on : RunsOn l.fn.self (skeleton_lists l.left) l.heads.places l.heads.next;
  goes : can_go (skeleton_lists l.left) l.heads.places l.heads.next l.log ≡ true;
  here : Stands l.roster l.log Nowhere;
  others : (other : ℕ) → other < 32 → other ≢ l.log →
      Stands l.roster other (standing_of l.heads.next (next_entry (skeleton_lists l.left) l.heads.places other));
  fewer : ahead_of (skeleton_lists l.left) l.heads.places ≤ ahead_of (skeleton_lists l.left) l.fn.heads.places;
}

abbrev pub decreases-loop-bank : goal.decreases-loop-bank
decreases-loop-bank l = ahead_of (skeleton_lists l.left) l.heads.places
