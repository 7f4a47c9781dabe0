use Rattle.std.proofs.Common.{◌+◌, ◌*◌, not, ap, ◌∙◌}
use Rattle.lf_mshr.specs.Places.{held_of, is_taken}
use Rattle.lf_mshr.proofs.Fields.{field-taken}
use Rattle.lf_mshr.proofs.Placed.{taken-held}
use Rattle.lf_mshr.proofs.implicit.ImplicitFile.has_field.Goals as goal

pub returns : goal.returns
returns g c =
    let file = c.args.self.now in
    let order = file.registers.places.order in
    ap not (c.is_taken.ensures ∙ ap (λ n. is_taken order (c.args.register * 8 + n)) c.from.ensures
    ∙ taken-held (λ h. h.register * 8 + g.T.Target.position h.target) order file.own (c.args.register * 8 + c.args.at)
    ∙ field-taken g.T.Target.position g.met.T.Target.below_eight c.args.register c.args.at c.requires.eight
    (held_of order))
