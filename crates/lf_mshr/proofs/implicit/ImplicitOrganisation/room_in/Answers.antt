use Rattle.lf_mshr.specs.RegisterFile.{implicit_file}
use Rattle.lf_mshr.specs.Places.{held_of}
use Rattle.lf_mshr.proofs.Room.{has_room_is}
use Rattle.lf_mshr.proofs.implicit.ImplicitOrganisation.room_in.Goals as goal

pub returns-clause-value : goal.returns-clause-value
returns-clause-value g c = rw (← c.position.ensures.field) (c.has_room.ensures
    (g.T.Target.destination c.args.target.now))

pub returns-clause-exact : goal.returns-clause-exact
returns-clause-exact g c =
    let file = c.args.file.now in
    has_room_is g.T.Target.position g.T.Target.destination (implicit_file file.registers.registers file.destinations
    (held_of file.registers.places.order)) c.args.block c.args.target.now c.has_room.result
    (rw (← c.position.ensures.field) (c.has_room.ensures (g.T.Target.destination c.args.target.now)))
