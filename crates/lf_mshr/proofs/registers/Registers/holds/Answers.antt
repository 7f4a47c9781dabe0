use Rattle.std.proofs.Common.{◌∙◌}
use Rattle.lf_mshr.specs.Places.{held_of}
use Rattle.lf_mshr.proofs.Indexed.{found-is}
use Rattle.lf_mshr.proofs.registers.Registers.holds.Goals as goal

pub returns : goal.returns
returns g c =
    let file = c.args.self.now in
    c.is_some.ensures ∙ found-is file.registers (held_of file.places.order) c.args.block c.find.result
    c.find.ensures.some c.find.ensures.none
