use Rattle.std.proofs.Common.{◌∙◌}
use Rattle.bank_events.proofs.Told.{second_room_told}
use Rattle.bank_events.proofs.registers.has_room2.Goals as goal

pub returns : goal.returns
returns g c = λ fetched alike.
    c.room_in.ensures.value ∙ second_room_told c.args.shape.now (g.O.Organisation.seen c.args.regs2.now) c.requires.file
    fetched alike c.args.second c.args.target.now.destination c.args.target.now.position
