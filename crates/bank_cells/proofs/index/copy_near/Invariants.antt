use Rattle.std.proofs.Common.{◌≡◌, ◌++◌}
use Rattle.bank_cells.specs.Index.{found_in}
use Rattle.bank_cells.proofs.index.copy_near.Given as goal

abbrev pub invariant-loop-block : goal.invariant-loop-block
invariant-loop-block l = found_in (l.near ++ l.far.entries) ≡ found_in (l.initial.near ++ l.far.entries)
