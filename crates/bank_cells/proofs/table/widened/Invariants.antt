use Rattle.std.proofs.Common.{◌≡◌, ◌++◌, drop, map}
use Rattle.bank_cells.specs.Index.{stands_in}
use Rattle.bank_cells.proofs.Entries.{widened}
use Rattle.bank_cells.proofs.table.widened.Given as goal

abbrev pub invariant-loop-entry : goal.invariant-loop-entry
invariant-loop-entry l = map stands_in l.wider.items ++ widened l.spread l.count (drop l.entry-index l.entries)
    ≡ widened l.spread l.count l.entries
