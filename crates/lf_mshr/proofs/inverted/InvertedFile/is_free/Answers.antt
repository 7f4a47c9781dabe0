use Rattle.std.proofs.Common.{not, ap, ◌∙◌}
use Rattle.lf_mshr.proofs.Placed.{taken-held}
use Rattle.lf_mshr.proofs.inverted.InvertedFile.is_free.Goals as goal

pub returns : goal.returns
returns g c =
    let places = c.args.self.now.places in
    ap not (c.is_taken.ensures ∙ taken-held (λ h. h.register) places.order c.args.self.now.own c.args.register)
