use Rattle.std.proofs.Common.{◌≡◌, ◌≤◌, ◌+◌, ◌-◌, ◌++◌, replicate, vec_len, vec_capacity}
use Rattle.bank_cells.proofs.cells.push_all.Given as goal

abbrev pub invariant-loop-left : goal.invariant-loop-left
invariant-loop-left l = record {
  within : l.left ≤ l.count;
  room : vec_len l.cells + l.left ≤ vec_capacity l.cells;
  items : l.cells.items ≡ l.initial.cells.items ++ replicate (l.count - l.left) l.cell;
}

abbrev pub decreases-loop-left : goal.decreases-loop-left
decreases-loop-left l = l.left
