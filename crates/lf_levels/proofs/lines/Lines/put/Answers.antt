use Rattle.std.proofs.Common.{arith, ap, ◌∙◌, Some, None}
use Rattle.lf_levels.specs.Rows.{is_free}
use Rattle.lf_levels.proofs.Searched.{row_fits, way_inside, dirty_inside, full_value, filled_whole, filled_table}
use Rattle.lf_levels.proofs.Searched.{changed-fill}
use Rattle.lf_levels.proofs.lines.Lines.put.Goals as goal

pub find_free-requires : goal.find_free-requires
find_free-requires g c = row_fits c.self.invariant.1 c.args.self.now c.self.view_is c.args.block c.row-row.result
    c.row-row.ensures _ c.deref.ensures.value

pub index_mut-requires : goal.index_mut-requires
index_mut-requires g c =
    omega (
      arith,
      way_inside c.self.invariant.1 c.args.self.now c.self.view_is c.args.block c.row-row.result
          c.row-row.ensures _ c.deref.ensures.value is_free c.in-Some.way c.in-Some.ensures,
      c.self.inside.keys.ok.0,
    )

pub set-requires : goal.set-requires
set-requires g c = record {
  way = dirty_inside c.self.invariant.1 c.args.self.now c.self.view_is c.args.block c.row-row.result
      c.row-row.ensures _ c.deref.ensures.value is_free c.in-Some.way c.in-Some.ensures;
  line = ap (λ factor. g.L.Level.is_line factor c.args.dirty) c.self.invariant.0
      ∙ ap (λ table. g.L.Level.is_line table.factor c.args.dirty) c.self.view_is ∙ c.requires.masks;
}

pub invariant_of-self : goal.invariant_of-self
invariant_of-self g c = rw c.set.ensures (
  c.self.invariant.0,
  filled_whole c.self.invariant.1 c.args.self.now c.self.view_is c.args.block c.row-row.result c.row-row.ensures _
      c.deref.ensures.value c.in-Some.way c.in-Some.ensures c.requires.absent c.args.dirty c.requires.masks
      c.of.result c.of.ensures,
)

pub returns-in_default-clause-refused : goal.returns-in_default-clause-refused
returns-in_default-clause-refused g c = full_value c.self.invariant.1 c.args.self.now c.self.view_is c.args.block
    c.row-row.result c.row-row.ensures _ c.deref.ensures.value None c.in_default.ensures

pub returns-clause-free_way : goal.returns-clause-free_way
returns-clause-free_way g c = full_value c.self.invariant.1 c.args.self.now c.self.view_is c.args.block c.row-row.result
    c.row-row.ensures _ c.deref.ensures.value (Some c.in-Some.way) c.in-Some.ensures

pub returns-clause-filled : goal.returns-clause-filled
returns-clause-filled g c = rw c.set.ensures
    (filled_table c.self.invariant.1 c.args.self.now c.self.view_is c.args.block c.row-row.result c.row-row.ensures _
    c.deref.ensures.value c.in-Some.way c.in-Some.ensures c.requires.absent c.args.dirty c.requires.masks
    c.of.result c.of.ensures)

pub returns-clause-here : goal.returns-clause-here
returns-clause-here g c = rw c.set.ensures
    (changed-fill c.args.self.now _ c.args.block c.args.dirty
    (filled_table c.self.invariant.1 c.args.self.now c.self.view_is c.args.block c.row-row.result c.row-row.ensures _
    c.deref.ensures.value c.in-Some.way c.in-Some.ensures c.requires.absent c.args.dirty c.requires.masks
    c.of.result c.of.ensures))

pub returns-in_default-clause-free_way : goal.returns-in_default-clause-free_way
returns-in_default-clause-free_way g c = tt

pub returns-in_default-clause-filled : goal.returns-in_default-clause-filled
returns-in_default-clause-filled g c = tt

pub returns-in_default-clause-here : goal.returns-in_default-clause-here
returns-in_default-clause-here g c = tt
