use Rattle.std.proofs.Common.{◌*◌, length, map, arith, refl}
use Rattle.bank_cells.specs.Index.{stands_in}
use Rattle.bank_cells.proofs.Entries.{widened, widened_same, widened_table}
use Rattle.bank_cells.proofs.Wider.{wider_end}
use Rattle.bank_cells.proofs.table.widened.Goals as goal

pub returns-clause-same : goal.returns-clause-same
returns-clause-same c =
    let entries = c.args.entries.now in
    widened_same c.args.spread entries c.loop-entry.wider.items
    (wider_end (widened c.args.spread (2 * length entries)) entries (map stands_in c.loop-entry.wider.items)
    c.loop-entry.entry-index (omega (arith, c.loop-entry-test.false)) refl c.loop-entry.invariant)

pub returns-clause-table : goal.returns-clause-table
returns-clause-table c = λ used table.
    let entries = c.args.entries.now in
    widened_table c.args.spread used entries c.loop-entry.wider.items
    (wider_end (widened c.args.spread (2 * length entries)) entries (map stands_in c.loop-entry.wider.items)
    c.loop-entry.entry-index (omega (arith, c.loop-entry-test.false)) refl c.loop-entry.invariant) c.requires table
