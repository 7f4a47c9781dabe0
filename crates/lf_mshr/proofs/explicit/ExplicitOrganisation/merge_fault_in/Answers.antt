use Rattle.std.proofs.Common.{rules, ◌≡◌, ◌<◌, true, false, nat_lt, sym, subst, lt-ltb}
use Rattle.lf_rules.specs.declared.shape.OrgShape.TheVariants.{Explicit}
use Rattle.lf_rules.specs.Registers.{holds_in, takes}
use Rattle.lf_mshr.specs.Places.{held_of}
use Rattle.lf_mshr.proofs.Indexed.{holding-below}
use Rattle.lf_mshr.proofs.Joined.{joins-none, joins-other, joins-full, joins-left}
use Rattle.lf_mshr.proofs.explicit.ExplicitOrganisation.merge_fault_in.Goals as goal

pub returns-then-from-file : goal.returns-then-from-file
returns-then-from-file g c =
    let file = c.args.file.now.registers in
    let held = held_of file.places.order in
    let has : holds_in held c.in-Some.holder c.args._block ≡ true = rw c.in-Some.is at c.requires.some in
    let left = takes (Explicit file.registers c.args.file.now.entries) g.T.Target.position held c.args.register
    (g.T.Target.position c.args._target.now) in
    let there : nat_lt c.args.register file.registers ≡ false = search rules in
    joins-none held file.once c.in-Some.holder c.args.register c.args._block has
    (nat_lt c.args.register file.registers) left there

pub returns-then-register-holder : goal.returns-then-register-holder
returns-then-register-holder g c =
    let file = c.args.file.now.registers in
    let held = held_of file.places.order in
    let has : holds_in held c.in-Some.holder c.args._block ≡ true = rw c.in-Some.is at c.requires.some in
    let left = takes (Explicit file.registers c.args.file.now.entries) g.T.Target.position held c.args.register
    (g.T.Target.position c.args._target.now) in
    let there : nat_lt c.args.register file.registers ≡ true = search rules in
    joins-other held file.once c.in-Some.holder c.args.register c.args._block has
    (nat_lt c.args.register file.registers) left c.if-register-holder.true there

pub has_entry-requires : goal.has_entry-requires
has_entry-requires g c =
    let file = c.args.file.now.registers in
    let held = held_of file.places.order in
    let has : holds_in held c.in-Some.holder c.args._block ≡ true = rw c.in-Some.is at c.requires.some in
    rw (c.from-2.ensures, c.if-register-holder.false)
    (holding-below file.registers held file.below c.in-Some.holder c.args._block has)

pub returns-then-not-has_entry : goal.returns-then-not-has_entry
returns-then-not-has_entry g c =
    let file = c.args.file.now.registers in
    let held = held_of file.places.order in
    let has : holds_in held c.in-Some.holder c.args._block ≡ true = rw c.in-Some.is at c.requires.some in
    let there = subst (λ r. r < file.registers) (sym c.if-register-holder.false)
    (holding-below file.registers held file.below c.in-Some.holder c.args._block has) in
    let left = takes (Explicit file.registers c.args.file.now.entries) g.T.Target.position held c.args.register
    (g.T.Target.position c.args._target.now) in
    let none : left ≡ false = search rules in
    joins-full held file.once c.in-Some.holder c.args.register c.args._block has
    (nat_lt c.args.register file.registers) left c.if-register-holder.false
    (lt-ltb c.args.register file.registers there) none

pub returns : goal.returns
returns g c =
    let file = c.args.file.now.registers in
    let held = held_of file.places.order in
    let has : holds_in held c.in-Some.holder c.args._block ≡ true = rw c.in-Some.is at c.requires.some in
    let there = subst (λ r. r < file.registers) (sym c.if-register-holder.false)
    (holding-below file.registers held file.below c.in-Some.holder c.args._block has) in
    let left = takes (Explicit file.registers c.args.file.now.entries) g.T.Target.position held c.args.register
    (g.T.Target.position c.args._target.now) in
    let some : left ≡ true = search rules in
    joins-left held file.once c.in-Some.holder c.args.register c.args._block has
    (nat_lt c.args.register file.registers) left c.if-register-holder.false
    (lt-ltb c.args.register file.registers there) some
