use Rattle.lf_levels.proofs.Searched.{row_fits, full_value, full_all, table_is, taken}
use Rattle.lf_levels.proofs.lines.Lines.full.Goals as goal

pub find_free-requires : goal.find_free-requires
find_free-requires g c = row_fits c.self.invariant.1 c.args.self.now c.self.view_is c.args.block c.row.result
    c.row.ensures _ c.deref.ensures.value

pub returns-clause-value : goal.returns-clause-value
returns-clause-value g c =
    taken _ _ _ c.is_none.ensures (full_value c.self.invariant.1 c.args.self.now c.self.view_is c.args.block
    c.row.result c.row.ensures _ c.deref.ensures.value c.find_free.result c.find_free.ensures)

pub returns-clause-all_ways : goal.returns-clause-all_ways
returns-clause-all_ways g c =
    full_all c.self.invariant.1 c.args.self.now c.self.view_is c.args.block c.is_none.result
    (taken _ _ _ c.is_none.ensures
    (full_value c.self.invariant.1 c.args.self.now c.self.view_is c.args.block c.row.result c.row.ensures _
    c.deref.ensures.value c.find_free.result c.find_free.ensures))

pub returns-clause-table : goal.returns-clause-table
returns-clause-table g c = table_is c.self.invariant.1 c.args.self.now c.self.view_is
