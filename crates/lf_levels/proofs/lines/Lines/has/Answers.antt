use Rattle.std.proofs.Common.{◌∙◌, sym}
use Rattle.lf_levels.proofs.Searched.{row_fits, has_value, table_is}
use Rattle.lf_levels.proofs.lines.Lines.has.Goals as goal

pub find_line-requires : goal.find_line-requires
find_line-requires g c = row_fits c.self.invariant.1 c.args.self.now c.self.view_is c.args.block c.row.result
    c.row.ensures _ c.deref.ensures.value

pub returns-clause-value : goal.returns-clause-value
returns-clause-value g c =
    c.is_some.ensures ∙ sym (has_value c.self.invariant.1 c.args.self.now c.self.view_is c.args.block c.row.result
    c.row.ensures _ c.deref.ensures.value c.find_line.result c.find_line.ensures)

pub returns-clause-table : goal.returns-clause-table
returns-clause-table g c = table_is c.self.invariant.1 c.args.self.now c.self.view_is
