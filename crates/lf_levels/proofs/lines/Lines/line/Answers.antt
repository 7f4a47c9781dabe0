use Rattle.std.proofs.Common.{sym}
use Rattle.lf_levels.proofs.Searched.{row_fits, line_found, line_lacking, table_is}
use Rattle.lf_levels.proofs.lines.Lines.line.Goals as goal

pub find_line-requires : goal.find_line-requires
find_line-requires g c = row_fits c.self.invariant.1 c.args.self.now c.self.view_is c.args.block c.row.result
    c.row.ensures _ c.deref.ensures.value

pub returns-in_default-clause-value : goal.returns-in_default-clause-value
returns-in_default-clause-value g c = sym (line_lacking c.self.invariant.1 c.args.self.now c.self.view_is c.args.block
    c.row.result c.row.ensures _ c.deref.ensures.value c.in_default.ensures)

pub returns-in_default-clause-table : goal.returns-in_default-clause-table
returns-in_default-clause-table g c = table_is c.self.invariant.1 c.args.self.now c.self.view_is

pub returns-clause-value : goal.returns-clause-value
returns-clause-value g c = sym (line_found c.self.invariant.1 c.args.self.now c.self.view_is c.args.block c.row.result
    c.row.ensures _
    c.deref.ensures.value c.in-Some.way c.in-Some.ensures _ c.get.ensures)

pub returns-clause-table : goal.returns-clause-table
returns-clause-table g c = table_is c.self.invariant.1 c.args.self.now c.self.view_is
