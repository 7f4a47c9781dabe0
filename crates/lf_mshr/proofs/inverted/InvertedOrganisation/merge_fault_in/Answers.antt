use Rattle.std.proofs.Common.{rules, ◌≡◌, true}
use Rattle.std.specs.Prelude.{is_some}
use Rattle.lf_rules.specs.Registers.{holds}
use Rattle.lf_mshr.specs.Places.{held_of}
use Rattle.lf_mshr.proofs.Joined.{known-held}
use Rattle.lf_mshr.proofs.inverted.InvertedOrganisation.merge_fault_in.Goals as goal

pub returns-then-register-file : goal.returns-then-register-file
returns-then-register-file g c =
    let held = held_of c.args.file.now.places.order in
    let some : is_some c.args.holder ≡ true = search rules in
    let is : holds held c.args._block ≡ true = known-held held c.args._block c.args.holder c.requires.some some in
    rw is (search rules)

pub returns-then-register-destination : goal.returns-then-register-destination
returns-then-register-destination g c =
    let held = held_of c.args.file.now.places.order in
    let some : is_some c.args.holder ≡ true = search rules in
    let is : holds held c.args._block ≡ true = known-held held c.args._block c.args.holder c.requires.some some in
    rw is (search rules)

pub returns-then-not-is_free : goal.returns-then-not-is_free
returns-then-not-is_free g c =
    let held = held_of c.args.file.now.places.order in
    let some : is_some c.args.holder ≡ true = search rules in
    let is : holds held c.args._block ≡ true = known-held held c.args._block c.args.holder c.requires.some some in
    rw is (search rules)

pub returns : goal.returns
returns g c =
    let held = held_of c.args.file.now.places.order in
    let some : is_some c.args.holder ≡ true = search rules in
    let is : holds held c.args._block ≡ true = known-held held c.args._block c.args.holder c.requires.some some in
    rw is (search rules)
