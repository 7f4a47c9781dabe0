use Rattle.std.proofs.Common.{get_or, refl, ap, arith}
use Rattle.lf_rules.specs.Lines.{dirty_masks, marked, no_masks}
use Rattle.lf_levels.specs.Rows.{is_key}
use Rattle.lf_levels.proofs.Marked.{marked_keeps, marked_none}
use Rattle.lf_levels.proofs.Searched.{row_fits, not_lacking, dirty_inside, dirty_there, line_has, set_whole}
use Rattle.lf_levels.proofs.Searched.{changed_table, same_fill, changed-fill}
use Rattle.lf_levels.proofs.lines.Lines+Two.mark_at.Goals as goal

pub returns-then-mask-eq0-clause-marked : goal.returns-then-mask-eq0-clause-marked
returns-then-mask-eq0-clause-marked c = same_fill c.self.invariant.1 c.args.self.now c.self.view_is c.args.second
    no_masks _
    c.requires.there (marked_none (dirty_masks c.args.self.now.lines c.args.second) c.args.place c.args.mask.0
    c.if-mask-eq0.true)

pub returns-then-mask-eq0-clause-here : goal.returns-then-mask-eq0-clause-here
returns-then-mask-eq0-clause-here c =
    changed-fill c.args.self.now c.args.self.now c.args.second _
    (same_fill c.self.invariant.1 c.args.self.now c.self.view_is c.args.second no_masks _
    c.requires.there (marked_none (dirty_masks c.args.self.now.lines c.args.second) c.args.place c.args.mask.0
    c.if-mask-eq0.true))

pub find_line-requires : goal.find_line-requires
find_line-requires c = row_fits c.self.invariant.1 c.args.self.now c.self.view_is c.args.second c.row-row.result
    c.row-row.ensures _
    c.deref.ensures.value

pub unreachable-requires : goal.unreachable-requires
unreachable-requires c = not_lacking c.self.invariant.1 c.args.self.now c.self.view_is c.args.second c.row-row.result
    c.row-row.ensures _
    c.deref.ensures.value c.requires.there c.in_default.ensures

pub gain_at-requires : goal.gain_at-requires
gain_at-requires c = record {
  way = dirty_inside c.self.invariant.1 c.args.self.now c.self.view_is c.args.second c.row-row.result
      c.row-row.ensures _ c.deref.ensures.value (is_key c.args.second) c.in-Some.way c.in-Some.ensures;
  place = omega (arith, c.requires.inside, ap (λ table. table.factor) c.self.view_is, c.self.invariant.0);
}

pub invariant_of-self : goal.invariant_of-self
invariant_of-self c =
    let was = get_or c.self.inside.dirty.ways c.in-Some.way no_masks in
    let there = dirty_there c.self.invariant.1 c.args.self.now c.self.view_is c.args.second c.row-row.result
    c.row-row.ensures _ c.deref.ensures.value c.in-Some.way c.in-Some.ensures no_masks in
    let keeps = marked_keeps c.self.inside.factor was c.args.place c.args.mask.0
    (line_has c.self.invariant.1 c.args.self.now c.self.view_is c.args.second c.row-row.result c.row-row.ensures _
    c.deref.ensures.value c.in-Some.way c.in-Some.ensures was there) in
    rw c.gain_at.ensures (
      c.self.invariant.0,
      set_whole c.self.invariant.1 c.args.self.now c.self.view_is c.args.second c.row-row.result c.row-row.ensures _
          c.deref.ensures.value c.in-Some.way c.in-Some.ensures (marked was c.args.place c.args.mask.0) keeps,
    )

pub returns-clause-marked : goal.returns-clause-marked
returns-clause-marked c =
    let there = dirty_there c.self.invariant.1 c.args.self.now c.self.view_is c.args.second c.row-row.result
    c.row-row.ensures _ c.deref.ensures.value c.in-Some.way c.in-Some.ensures no_masks in
    rw c.gain_at.ensures
    (changed_table c.self.invariant.1 c.args.self.now c.self.view_is c.args.second c.row-row.result c.row-row.ensures _
    c.deref.ensures.value c.in-Some.way c.in-Some.ensures _ there
    (λ masks. marked masks c.args.place c.args.mask.0) no_masks _ refl)

pub returns-clause-here : goal.returns-clause-here
returns-clause-here c =
    let there = dirty_there c.self.invariant.1 c.args.self.now c.self.view_is c.args.second c.row-row.result
    c.row-row.ensures _ c.deref.ensures.value c.in-Some.way c.in-Some.ensures no_masks in
    rw c.gain_at.ensures
    (changed-fill c.args.self.now _ c.args.second _
    (changed_table c.self.invariant.1 c.args.self.now c.self.view_is c.args.second c.row-row.result c.row-row.ensures _
    c.deref.ensures.value c.in-Some.way c.in-Some.ensures _ there
    (λ masks. marked masks c.args.place c.args.mask.0) no_masks _ refl))
