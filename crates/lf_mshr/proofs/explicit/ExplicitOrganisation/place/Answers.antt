use Rattle.std.proofs.Common.{inl, inr, arith, ltb-true}
use Rattle.lf_mshr.specs.RegisterFile.{explicit_file}
use Rattle.lf_mshr.specs.Places.{held_of}
use Rattle.lf_mshr.proofs.Bounds.{free-count}
use Rattle.lf_mshr.proofs.Room.{taken}
use Rattle.lf_mshr.proofs.explicit.ExplicitOrganisation.place.Goals as goal

pub append-requires-clause-exists : goal.append-requires-clause-exists
append-requires-clause-exists g c =
    let file = c.args.file.now in
    (taken g.T.Target.position g.T.Target.destination (explicit_file file.registers.registers file.entries
    file.destinations
    (held_of file.registers.places.order)) c.args.block c.args.target c.args.register c.requires).0

pub append-requires-clause-entry : goal.append-requires-clause-entry
append-requires-clause-entry g c =
    let file = c.args.file.now in
    elim (taken g.T.Target.position g.T.Target.destination (explicit_file file.registers.registers file.entries
    file.destinations
    (held_of file.registers.places.order)) c.args.block c.args.target c.args.register c.requires).1 [
      | inl primary ↦ let none = free-count (held_of file.registers.places.order) c.args.register primary.1 in
          omega (arith, none, file.some_entry)
      | inr merge ↦ ltb-true _ file.entries merge.2
    ]

pub append-requires-clause-apart : goal.append-requires-clause-apart
append-requires-clause-apart g c =
    let file = c.args.file.now in
    elim (taken g.T.Target.position g.T.Target.destination (explicit_file file.registers.registers file.entries
    file.destinations
    (held_of file.registers.places.order)) c.args.block c.args.target c.args.register c.requires).1 [
      | inl primary ↦ inl primary.0
      | inr merge ↦ inr merge.1
    ]

pub append-requires-clause-own : goal.append-requires-clause-own
append-requires-clause-own g c =
    let file = c.args.file.now in
    elim (taken g.T.Target.position g.T.Target.destination (explicit_file file.registers.registers file.entries
    file.destinations
    (held_of file.registers.places.order)) c.args.block c.args.target c.args.register c.requires).1 [
      | inl primary ↦ inl primary.1
      | inr merge ↦ inr merge.1
    ]

pub returns : goal.returns
returns g c = λ i. explicit_file (c.append.ensures.registers i) (c.append.ensures.entries i)
    (c.append.ensures.destinations i) (c.append.ensures.items i)
