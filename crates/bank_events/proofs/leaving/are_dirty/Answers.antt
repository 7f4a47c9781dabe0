use Rattle.std.proofs.Common.{◌≡◌, ◌<◌, ◌+◌, ◌*◌, ◌==◌, false, sym, ap, ◌∙◌, arith}
use Rattle.std.proofs.lemmas.Bool.{ne_eqb}
use Rattle.lf_rules.specs.Address.{mask_at}
use Rattle.lf_rules.proofs.Masks.{all_range, not_all}
use Rattle.trace_views.specs.Views.{masks_of}
use Rattle.bank_cells.specs.Cells.{cell_of}
use Rattle.bank_events.proofs.leaving.are_dirty.Goals as goal

pub dirty-requires : goal.dirty-requires
dirty-requires c =
    let second = c.requires.there.second in
    let factor = c.args.cells.now.factor in
    let below : c.loop-part.part < factor = omega arith in
    record {
      block = second * factor + c.loop-part.part;
      found = c.first_of-first.ensures.cells second c.loop-part.part c.requires.there.found below;
    }

pub returns-then-get-dirty : goal.returns-then-get-dirty
returns-then-get-dirty c = λ second there.
    let part = c.loop-part.part in
    let below : part < c.args.cells.now.factor = omega arith in
    let block = second * c.args.shape.now.factor + part in
    let found = (λ i. cell_of c.args.cells.now (second * sym c.requires.factor i + part))
    ∙ c.first_of-first.ensures.cells second part there below in
    let other : (mask_at (masks_of c.args.masks.now) part == c.dirty.result) ≡ false =
    ne_eqb _ _ (λ e. c.if-get-dirty.true (c.get.ensures ∙ e)) in
    not_all _ 0 c.args.shape.now.factor part (omega arith) (omega (arith, c.loop-part-test.true))
    (sym other ∙ ap (λ n. mask_at (masks_of c.args.masks.now) part == n) (c.dirty.ensures block found))

pub returns : goal.returns
returns c = λ second there. sym (all_range _ 0 c.args.shape.now.factor
    (λ i le lt. c.loop-part.invariant second there i (omega (arith, lt, c.loop-part-test.false))))
