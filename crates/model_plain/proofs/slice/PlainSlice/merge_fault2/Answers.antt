use Rattle.std.proofs.Common.{◌∙◌}
use Rattle.lf_rules.specs.Registers.{merge_clauses}
use Rattle.lf_rules.specs.Run.{first_failing}
use Rattle.lf_rules.specs.Table.{OfBoth, position2}
use Rattle.model_plain.proofs.slice.PlainSlice.merge_fault2.Goals as goal

pub returns : goal.returns
returns c =
    c.merge_fault.ensures
    ∙ (λ i. first_failing OfBoth (merge_clauses c.args.shape.now.level2.organisation (c.destinations2.ensures i)
    (position2 c.args.shape.now) (c.deref.ensures.value i)
    (c.second_of.ensures i) ((c.from.ensures ∙ c.asked_register.ensures) i) (c.place_of.ensures.place i)
    (c.from-2.ensures i)))
