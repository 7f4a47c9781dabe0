use Rattle.lf_join.specs.Join.{skeleton_lists}
use Rattle.lf_join.specs.RunOn.{ahead_of, RunsOn}
use Rattle.lf_join.specs.Standings.{AllStand}
use Rattle.lf_join.proofs.progress.Progress.run_on.Given as goal

abbrev pub invariant-loop-log : goal.invariant-loop-log
invariant-loop-log l = record {
  run : RunsOn l.fn.self (skeleton_lists l.left) l.heads.places l.heads.next;
  stand : AllStand (skeleton_lists l.left) l.heads.places l.heads.next l.roster;
}

abbrev pub decreases-loop-log : goal.decreases-loop-log
decreases-loop-log l = ahead_of (skeleton_lists l.left) l.heads.places
