use Rattle.std.proofs.Common.{◌<◌, ◌+◌, ◌*◌, sym, ap, ◌∙◌, inl, inr, arith}
use Rattle.std.proofs.lemmas.Bool.{cases_eq}
use Rattle.lf_rules.proofs.Masks.{all_range, not_all}
use Rattle.bank_cells.specs.Cells.{cell_of}
use Rattle.bank_events.specs.Wide.{part_agrees}
use Rattle.bank_events.proofs.carried.wide_agrees.Goals as goal

pub part_agrees-requires-clause-there : goal.part_agrees-requires-clause-there
part_agrees-requires-clause-there c =
    let second = c.requires.there.second in
    let factor = c.args.cells.now.factor in
    let below : c.loop-part.part < factor = omega arith in
    record {
      block = second * factor + c.loop-part.part;
      found = c.first_of-first.ensures.cells second c.loop-part.part c.requires.there.found below;
    }

pub returns : goal.returns
returns c = λ second there. sym (all_range _ 0 c.args.shape.now.factor
    (λ i le lt. c.loop-part.invariant second there i (omega (arith, lt, c.loop-part-test.false))))

pub returns-then-not-part_agrees : goal.returns-then-not-part_agrees
returns-then-not-part_agrees c = λ second there.
    let part = c.loop-part.part in
    let below : part < c.args.cells.now.factor = omega arith in
    let found = (λ i. cell_of c.args.cells.now (second * sym c.requires.factor i + part))
    ∙ c.first_of-first.ensures.cells second part there below in
    not_all _ 0 c.args.shape.now.factor part (omega arith) (omega (arith, c.loop-part-test.true))
    (sym c.if-not-part_agrees.true ∙ c.part_agrees.ensures second found)

pub loop-part-preserved : goal.loop-part-preserved
loop-part-preserved c = λ second there k lt.
    let part = c.loop-part.part in
    let below : part < c.args.cells.now.factor = omega arith in
    let found = (λ i. cell_of c.args.cells.now (second * sym c.requires.factor i + part))
    ∙ c.first_of-first.ensures.cells second part there below in
    (elim (cases_eq k part) [
      | inl same ↦ ap (part_agrees c.args.shape.now c.args.cells.now second c.args.bytes.now) same
          ∙ sym (c.part_agrees.ensures second found) ∙ c.if-not-part_agrees.false
      | inr apart ↦ c.loop-part.invariant second there k (omega (arith, lt, apart))
    ])
