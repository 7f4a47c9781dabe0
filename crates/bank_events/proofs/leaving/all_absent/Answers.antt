use Rattle.std.proofs.Common.{◌≡◌, ◌<◌, ◌+◌, ◌*◌, false, sym, ap, ◌∙◌, rules, arith}
use Rattle.lf_rules.proofs.Masks.{all_range, not_all}
use Rattle.bank_cells.specs.Cells.{cell_of}
use Rattle.bank_events.specs.Known.{is_absent}
use Rattle.bank_events.proofs.leaving.all_absent.Goals as goal

pub first-requires : goal.first-requires
first-requires c =
    let second = c.requires.there.second in
    let factor = c.args.cells.now.factor in
    let below : c.loop-part.part < factor = omega arith in
    record {
      block = second * factor + c.loop-part.part;
      found = c.first_of-first.ensures.cells second c.loop-part.part c.requires.there.found below;
    }

pub returns-in_default : goal.returns-in_default
returns-in_default c = λ second there.
    let part = c.loop-part.part in
    let below : part < c.args.cells.now.factor = omega arith in
    let block = second * c.args.shape.now.factor + part in
    let found = (λ i. cell_of c.args.cells.now (second * sym c.requires.factor i + part))
    ∙ c.first_of-first.ensures.cells second part there below in
    let here : is_absent c.first.result ≡ false = search rules in
    not_all _ 0 c.args.shape.now.factor part (omega arith) (omega (arith, c.loop-part-test.true))
    (sym here ∙ ap is_absent (c.first.ensures block found))

pub returns : goal.returns
returns c = λ second there. sym (all_range _ 0 c.args.shape.now.factor
    (λ i le lt. c.loop-part.invariant second there i (omega (arith, lt, c.loop-part-test.false))))
