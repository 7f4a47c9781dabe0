use Rattle.std.proofs.Common.{◌∙◌}
use Rattle.lf_rules.specs.Registers.{has_room}
use Rattle.lf_rules.specs.Table.{position2}
use Rattle.model_plain.proofs.slice.PlainSlice.has_room2.Goals as goal

pub returns : goal.returns
returns c = c.has_room.ensures ∙ (λ i. has_room c.args.shape.now.level2.organisation (c.destinations2.ensures i)
    (position2 c.args.shape.now)
    (c.deref.ensures.value i) (c.second_of.ensures i) ((c.from.ensures ∙ c.asked_register.ensures) i)
    (c.place_of.ensures.place i))
