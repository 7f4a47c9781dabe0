use Rattle.std.proofs.Common.{inl, inr}
use Rattle.lf_mshr.specs.RegisterFile.{inverted_file}
use Rattle.lf_mshr.specs.Places.{held_of}
use Rattle.lf_mshr.proofs.Room.{taken}
use Rattle.lf_mshr.proofs.inverted.InvertedOrganisation.place.Goals as goal

pub append-requires-clause-exists : goal.append-requires-clause-exists
append-requires-clause-exists g c =
    let file = c.args.file.now in
    (taken g.T.Target.position g.T.Target.destination (inverted_file file.destinations (held_of file.places.order))
    c.args.block c.args.target c.args.register c.requires).0

pub append-requires-clause-free : goal.append-requires-clause-free
append-requires-clause-free g c =
    let file = c.args.file.now in
    elim (taken g.T.Target.position g.T.Target.destination (inverted_file file.destinations
    (held_of file.places.order)) c.args.block c.args.target c.args.register c.requires).1 [
      | inl primary ↦ primary.1
      | inr merge ↦ merge.2
    ]
