use Rattle.std.proofs.Common.{◌≡◌, ◌≤◌, length}
use Rattle.lf_levels.specs.Rows.{is_same}
use Rattle.lf_levels.proofs.Counting.{first_from}
use Rattle.lf_levels.proofs.ways.place_of.Given as goal

abbrev pub invariant-loop-left : goal.invariant-loop-left
invariant-loop-left l = record {
  inside : l.left ≤ length l.keys;
  place : l.place ≡ first_from (is_same l.wanted) l.keys l.left;
}

abbrev pub decreases-loop-left : goal.decreases-loop-left
decreases-loop-left l = l.left
