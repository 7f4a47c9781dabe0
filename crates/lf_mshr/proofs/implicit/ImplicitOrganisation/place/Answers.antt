use Rattle.std.proofs.Common.{inl, inr}
use Rattle.lf_mshr.specs.RegisterFile.{implicit_file}
use Rattle.lf_mshr.specs.Places.{held_of}
use Rattle.lf_mshr.proofs.Fields.{takes-from_is_free}
use Rattle.lf_mshr.proofs.Room.{taken}
use Rattle.lf_mshr.proofs.implicit.ImplicitOrganisation.place.Goals as goal

pub append-requires-clause-exists : goal.append-requires-clause-exists
append-requires-clause-exists g c =
    let file = c.args.file.now in
    (taken g.T.Target.position g.T.Target.destination (implicit_file file.registers.registers file.destinations
    (held_of file.registers.places.order)) c.args.block c.args.target c.args.register c.requires).0

pub append-requires-clause-field : goal.append-requires-clause-field
append-requires-clause-field g c =
    let file = c.args.file.now in
    elim (taken g.T.Target.position g.T.Target.destination (implicit_file file.registers.registers file.destinations
    (held_of file.registers.places.order)) c.args.block c.args.target c.args.register c.requires).1 [
      | inl primary ↦ takes-from_is_free g.T.Target.position (held_of file.registers.places.order)
          file.registers.registers c.args.register (g.T.Target.position c.args.target) primary.1
      | inr merge ↦ merge.2
    ]

pub append-requires-clause-apart : goal.append-requires-clause-apart
append-requires-clause-apart g c =
    let file = c.args.file.now in
    elim (taken g.T.Target.position g.T.Target.destination (implicit_file file.registers.registers file.destinations
    (held_of file.registers.places.order)) c.args.block c.args.target c.args.register c.requires).1 [
      | inl primary ↦ inl primary.0
      | inr merge ↦ inr merge.1
    ]

pub append-requires-clause-own : goal.append-requires-clause-own
append-requires-clause-own g c =
    let file = c.args.file.now in
    elim (taken g.T.Target.position g.T.Target.destination (implicit_file file.registers.registers file.destinations
    (held_of file.registers.places.order)) c.args.block c.args.target c.args.register c.requires).1 [
      | inl primary ↦ inl primary.1
      | inr merge ↦ inr merge.1
    ]
