use Rattle.std.proofs.Common.{sym, ap, ◌∙◌}
use Rattle.lf_levels.specs.Rows.{is_key}
use Rattle.lf_levels.proofs.Searched.{row_fits, not_lacking, dirty_inside, line_has, set_whole, changed_table}
use Rattle.lf_levels.proofs.Searched.{same_fill, changed-fill}
use Rattle.lf_levels.proofs.lines.Lines.gain.Goals as goal

pub find_line-requires : goal.find_line-requires
find_line-requires g c = row_fits c.self.invariant.1 c.args.self.now c.self.view_is c.args.block c.row-row.result
    c.row-row.ensures _ c.deref.ensures.value

pub returns-then-is_clean-clause-gained : goal.returns-then-is_clean-clause-gained
returns-then-is_clean-clause-gained g c = same_fill c.self.invariant.1 c.args.self.now c.self.view_is c.args.block
    g.L.Level.clean _ c.requires (g.L.Level.join_clean _ c.args.more.now (sym c.is_clean.ensures ∙ c.if-is_clean.true))

pub unreachable-requires : goal.unreachable-requires
unreachable-requires g c = not_lacking c.self.invariant.1 c.args.self.now c.self.view_is c.args.block c.row-row.result
    c.row-row.ensures _ c.deref.ensures.value c.requires c.in_default.ensures

pub get-dirty-requires : goal.get-dirty-requires
get-dirty-requires g c = dirty_inside c.self.invariant.1 c.args.self.now c.self.view_is c.args.block c.row-row.result
    c.row-row.ensures _ c.deref.ensures.value (is_key c.args.block) c.in-Some.way c.in-Some.ensures

pub set-requires : goal.set-requires
set-requires g c = record {
  way = dirty_inside c.self.invariant.1 c.args.self.now c.self.view_is c.args.block c.row-row.result
      c.row-row.ensures _ c.deref.ensures.value (is_key c.args.block) c.in-Some.way c.in-Some.ensures;
  line = ap (λ factor. g.L.Level.is_line factor c.join.new.dirty) c.self.invariant.0
      ∙ c.join.ensures.line c.self.inside.factor
      (line_has c.self.invariant.1 c.args.self.now c.self.view_is c.args.block c.row-row.result c.row-row.ensures _
      c.deref.ensures.value c.in-Some.way c.in-Some.ensures _ c.get-dirty.ensures);
}

pub invariant_of-self : goal.invariant_of-self
invariant_of-self g c = rw c.set.ensures (
  c.self.invariant.0,
  set_whole c.self.invariant.1 c.args.self.now c.self.view_is c.args.block c.row-row.result c.row-row.ensures _
      c.deref.ensures.value c.in-Some.way c.in-Some.ensures c.join.new.dirty
      (c.join.ensures.line c.self.inside.factor
      (line_has c.self.invariant.1 c.args.self.now c.self.view_is c.args.block c.row-row.result c.row-row.ensures _
      c.deref.ensures.value c.in-Some.way c.in-Some.ensures _ c.get-dirty.ensures)),
)

pub returns-clause-gained : goal.returns-clause-gained
returns-clause-gained g c = rw c.set.ensures
    (changed_table c.self.invariant.1 c.args.self.now c.self.view_is c.args.block c.row-row.result c.row-row.ensures _
    c.deref.ensures.value c.in-Some.way c.in-Some.ensures _ c.get-dirty.ensures
    (λ dirty. g.L.Level.join dirty c.args.more.now) g.L.Level.clean c.join.new.dirty c.join.ensures.value)

pub returns-clause-here : goal.returns-clause-here
returns-clause-here g c = rw c.set.ensures
    (changed-fill c.args.self.now _ c.args.block _
    (changed_table c.self.invariant.1 c.args.self.now c.self.view_is c.args.block c.row-row.result c.row-row.ensures _
    c.deref.ensures.value c.in-Some.way c.in-Some.ensures _ c.get-dirty.ensures
    (λ dirty. g.L.Level.join dirty c.args.more.now) g.L.Level.clean c.join.new.dirty c.join.ensures.value))
