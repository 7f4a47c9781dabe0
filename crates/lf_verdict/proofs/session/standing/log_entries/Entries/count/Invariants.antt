use Rattle.std.proofs.Common.{◌≡◌, ◌≤◌, ◌*◌, ◌^◌, ℕ, List, length, take}
use Rattle.std.specs.List.{sum_by}
use Rattle.lf_verdict.specs.inner.Coming.{AreAllKept}
use Rattle.lf_verdict.proofs.session.standing.log_entries.Entries.count.Given as goal

abbrev pub invariant-loop-log : goal.invariant-loop-log
invariant-loop-log l = record {
  sum : (skeletons : List (List (ℕ × ℕ))) → AreAllKept skeletons l.self → l.count
      ≡ sum_by length (take l.log skeletons);
  bound : l.count ≤ l.log * 2 ^ 24;
}
