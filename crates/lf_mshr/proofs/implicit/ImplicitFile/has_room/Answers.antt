use Rattle.std.proofs.Common.{◌≡◌, true, ◌∙◌}
use Rattle.std.specs.List.{list_any, range_with_len}
use Rattle.lf_rules.specs.declared.shape.OrgShape.TheVariants.{Implicit}
use Rattle.lf_rules.specs.Registers.{is_free, holds_in, takes}
use Rattle.lf_mshr.specs.Places.{held_of}
use Rattle.lf_mshr.proofs.Indexed.{room-found, holding-below}
use Rattle.lf_mshr.proofs.implicit.ImplicitFile.has_room.Goals as goal

pub has_field-requires-clause-register : goal.has_field-requires-clause-register
has_field-requires-clause-register g c =
    let registers = c.args.self.now.registers in
    let held = held_of registers.places.order in
    let has : holds_in held c.in-Some.register c.args._block ≡ true = rw c.in-Some.is at c.requires.some in
    rw c.from.ensures (holding-below registers.registers held registers.below c.in-Some.register c.args._block has)

pub returns-in-Some : goal.returns-in-Some
returns-in-Some g c = λ destination.
    let registers = c.args.self.now.registers in
    let held = held_of registers.places.order in
    let has : holds_in held c.in-Some.register c.args._block ≡ true = rw c.in-Some.is at c.requires.some in
    let left = rw c.from.ensures at c.has_field.ensures in
    left ∙ room-found registers.registers held registers.once c.args._block c.in-Some.register
    (holding-below registers.registers held registers.below c.in-Some.register c.args._block has) has
    (λ r. takes (Implicit registers.registers) g.T.Target.position held r c.args.at)
    (list_any (is_free held) (range_with_len 0 registers.registers))
