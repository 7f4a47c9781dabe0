use Rattle.std.proofs.Common.{rules, ◌≡◌, true, false, ◌==◌, nat_lt, sym}
use Rattle.std.specs.Prelude.{count_by}
use Rattle.lf_rules.specs.Registers.{holds, holds_in}
use Rattle.lf_rules.specs.declared.rule.Rule.TheVariants.{RegisterRange, WrongRegister, NotInFlight, MergeFull}
use Rattle.lf_mshr.specs.Places.{held_of}
use Rattle.lf_mshr.proofs.Once.{holds_from}
use Rattle.lf_mshr.proofs.Room.{all_from, last_fails}
use Rattle.lf_mshr.proofs.explicit.ExplicitOrganisation.merge_fault.Goals as goal

pub returns-then-not-has_entry : goal.returns-then-not-has_entry
returns-then-not-has_entry g c =
    let file = c.args.file.now in
    let held = held_of file.registers.places.order in
    let there : nat_lt c.args.register file.registers.registers ≡ true = search rules in
    let has : holds_in held c.args.register c.args.block ≡ true = search rules in
    let left : nat_lt (count_by (λ h. h.register == c.args.register) held) file.entries ≡ false = search rules in
    sym (last_fails NotInFlight RegisterRange WrongRegister MergeFull (holds held c.args.block)
    (nat_lt c.args.register file.registers.registers) (holds_in held c.args.register c.args.block)
    (nat_lt (count_by (λ h. h.register == c.args.register) held) file.entries)
    (holds_from held c.args.register c.args.block has) there has left)

pub returns-then-holds_in : goal.returns-then-holds_in
returns-then-holds_in g c =
    let file = c.args.file.now in
    let held = held_of file.registers.places.order in
    let there : nat_lt c.args.register file.registers.registers ≡ true = search rules in
    let has : holds_in held c.args.register c.args.block ≡ true = search rules in
    let left : nat_lt (count_by (λ h. h.register == c.args.register) held) file.entries ≡ true = search rules in
    sym (all_from NotInFlight RegisterRange WrongRegister MergeFull (holds held c.args.block)
    (nat_lt c.args.register file.registers.registers) (holds_in held c.args.register c.args.block)
    (nat_lt (count_by (λ h. h.register == c.args.register) held) file.entries)
    (holds_from held c.args.register c.args.block has) there has left)
