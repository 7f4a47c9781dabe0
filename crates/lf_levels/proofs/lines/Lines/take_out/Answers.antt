use Rattle.std.proofs.Common.{sym, ap, ◌∙◌, None, Some}
use Rattle.lf_levels.proofs.Searched.{row_fits, has_value, compared, gone_whole, gone_table}
use Rattle.lf_levels.proofs.Searched.{changed-evict}
use Rattle.lf_levels.proofs.lines.Lines.take_out.Goals as goal

pub find_line-requires : goal.find_line-requires
find_line-requires g c = row_fits c.self.invariant.1 c.args.self.now c.self.view_is c.args.block c.row-row.result
    c.row-row.ensures _ c.deref.ensures.value

pub returns-in_default-clause-refused : goal.returns-in_default-clause-refused
returns-in_default-clause-refused g c = has_value c.self.invariant.1 c.args.self.now c.self.view_is c.args.block
    c.row-row.result c.row-row.ensures _
    c.deref.ensures.value None c.in_default.ensures

pub returns-then-not-same-clause-refused : goal.returns-then-not-same-clause-refused
returns-then-not-same-clause-refused g c = (
  has_value c.self.invariant.1 c.args.self.now c.self.view_is c.args.block c.row-row.result c.row-row.ensures _
      c.deref.ensures.value (Some c.in-Some.way) c.in-Some.ensures,
  compared c.self.invariant.1 c.args.self.now c.self.view_is c.args.block c.row-row.result c.row-row.ensures _
      c.deref.ensures.value c.in-Some.way c.in-Some.ensures _
      c.get-kept.ensures (λ factor dirty. g.L.Level.same factor c.args.dirty.now dirty) g.L.Level.clean
      ∙ (ap (λ factor. g.L.Level.same factor c.args.dirty.now c.get-kept.result) (sym c.get.ensures)
      ∙ sym c.same.ensures ∙ c.if-not-same.true),
)

pub returns-clause-there : goal.returns-clause-there
returns-clause-there g c = has_value c.self.invariant.1 c.args.self.now c.self.view_is c.args.block c.row-row.result
    c.row-row.ensures _
    c.deref.ensures.value (Some c.in-Some.way) c.in-Some.ensures

pub returns-clause-same : goal.returns-clause-same
returns-clause-same g c = compared c.self.invariant.1 c.args.self.now c.self.view_is c.args.block c.row-row.result
    c.row-row.ensures _
    c.deref.ensures.value c.in-Some.way c.in-Some.ensures _
    c.get-kept.ensures (λ factor dirty. g.L.Level.same factor c.args.dirty.now dirty) g.L.Level.clean
    ∙ (ap (λ factor. g.L.Level.same factor c.args.dirty.now c.get-kept.result) (sym c.get.ensures)
    ∙ sym c.same.ensures ∙ c.if-not-same.false)

pub invariant_of-self : goal.invariant_of-self
invariant_of-self g c = (
  c.self.invariant.0,
  gone_whole c.self.invariant.1 c.args.self.now c.self.view_is c.args.block c.row-row.result
      c.row-row.ensures _
      c.deref.ensures.value c.in-Some.way c.in-Some.ensures c.free.result c.free.ensures,
)

pub returns-clause-gone : goal.returns-clause-gone
returns-clause-gone g c = gone_table c.self.invariant.1 c.args.self.now c.self.view_is c.args.block c.row-row.result
    c.row-row.ensures _
    c.deref.ensures.value c.in-Some.way c.in-Some.ensures c.free.result c.free.ensures

pub returns-clause-here : goal.returns-clause-here
returns-clause-here g c =
    changed-evict c.args.self.now _ c.args.block
    (gone_table c.self.invariant.1 c.args.self.now c.self.view_is c.args.block c.row-row.result c.row-row.ensures _
    c.deref.ensures.value c.in-Some.way c.in-Some.ensures c.free.result c.free.ensures)
