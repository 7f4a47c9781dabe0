use Rattle.std.proofs.Common.{ℕ, ◌<◌, List, length, sym, ap, ◌∙◌, arith}
use Rattle.std.specs.Prelude.{slice_get}
use Rattle.explain_numbers.specs.Cycle.{has_number_in}
use Rattle.explain_numbers.proofs.Walking.{no_record, first_place, place_passed}
use Rattle.explain_numbers.proofs.cycle.first_from.Goals as goal

pub returns-then-has_number_in : goal.returns-then-has_number_in
returns-then-has_number_in c =
    let rs = c.args.records.now.records in
    let k = c.loop-place.place in
    let holds = has_number_in c.args.log c.args.bank c.args.number in
    let lt : k < length rs = omega (arith, c.loop-place-test.true, c.len-place-end.ensures) in
    sym (ap (λ (ps : List ℕ). slice_get ps 0)
    (first_place holds rs k lt (sym (c.has_number_in.ensures no_record) ∙ c.if-has_number_in.true)))
    ∙ c.loop-place.invariant

pub loop-place-preserved : goal.loop-place-preserved
loop-place-preserved c =
    let rs = c.args.records.now.records in
    let k = c.loop-place.place in
    let holds = has_number_in c.args.log c.args.bank c.args.number in
    let lt : k < length rs = omega (arith, c.loop-place-test.true, c.len-place-end.ensures) in
    sym (ap (λ (ps : List ℕ). slice_get ps 0)
    (place_passed holds rs k lt (sym (c.has_number_in.ensures no_record) ∙ c.if-has_number_in.false)))
    ∙ c.loop-place.invariant
