use Rattle.std.proofs.Common.{◌≡◌, Bool, true, false, sym, arith}
use Rattle.lf_join.specs.Join.{skeleton_lists}
use Rattle.lf_join.specs.Heads.{holds_next}
use Rattle.lf_join.proofs.Waits.{waits_from_test, test_from_waits, is_log}
use Rattle.lf_join.proofs.heads.Heads.waits_for.Goals as goal

pub returns-then-holds_next-clause-waits : goal.returns-then-holds_next-clause-waits
returns-then-holds_next-clause-waits c =
    let L = skeleton_lists c.args.skeletons.now in
    let heads = c.args.self.now in
    waits_from_test L heads.places heads.next c.args.log c.loop-other.other (c.in-Some.bank, c.in-Some.field-0-1)
    (sym c.in-Some.ensures.entry) (sym c.if-holds_next.ensures)

true_false : (b : Bool) → b ≡ true → b ≡ false → ⊥
true_false b t f = cc

pub unreachable-requires-2 : goal.unreachable-requires-2
unreachable-requires-2 c =
    let L = skeleton_lists c.args.skeletons.now in
    let heads = c.args.self.now in
    let is = sym c.in-Some.ensures.entry in
    let waits = c.requires.waits c.args.log (c.in-Some.bank, c.in-Some.field-0-1) is in
    let there = is_log c.args.skeletons.now heads.places heads.next c.args.log waits.0 waits.1 in
    let past = c.loop-other-test.false in
    true_false (holds_next L heads.places heads.next c.in-Some.bank waits.0)
    (test_from_waits L heads.places heads.next c.args.log waits.0 (c.in-Some.bank, c.in-Some.field-0-1)
    is waits.1)
    (c.loop-other.invariant waits.0 (omega (arith, there, past)))
