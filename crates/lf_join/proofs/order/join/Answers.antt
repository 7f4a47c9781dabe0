use Rattle.std.proofs.Common.{List, subst, sym}
use Rattle.lf_rules.specs.declared.ring.Knot.{Knot}
use Rattle.lf_rules.specs.Ring.{IsRing}
use Rattle.lf_join.specs.Join.{skeleton_lists, IsStuckRing}
use Rattle.lf_join.specs.Heads.{next_entry}
use Rattle.lf_join.proofs.Stuck.{all_wait}
use Rattle.lf_join.proofs.Waits.{some_there}
use Rattle.lf_join.proofs.RingLemmas.{is_ring, is_stuck_ring}
use Rattle.lf_join.proofs.order.join.Goals as goal

pub ring-requires-clause-waits : goal.ring-requires-clause-waits
ring-requires-clause-waits c =
    let heads = c.in_ok-merged.merged.1 in
    all_wait (skeleton_lists c.args.skeletons.now) c.in_ok-merged.merged.0.items heads.places heads.next
    c.in_ok-merged.ensures.is_at c.requires.whole c.in_ok-merged.ensures.nothing_goes

pub returns-in-Some-clause-ring : goal.returns-in-Some-clause-ring
returns-in-Some-clause-ring c =
    let L = skeleton_lists c.args.skeletons.now in
    let heads = c.in_ok-merged.merged.1 in
    let m = c.in_ok-merged.ensures in
    let first = c.in-Some.ensures in
    let ring = c.ring.ensures in
    subst (λ (knots : List Knot). IsStuckRing L knots) (sym ring.2)
    (is_stuck_ring L c.in_ok-merged.merged.0.items heads.places heads.next m.is_at c.requires.whole m.nothing_goes
    c.in-Some.start ring.0 ring.1 first.1 first.2)

pub returns-in-Some-clause-shown : goal.returns-in-Some-clause-shown
returns-in-Some-clause-shown c =
    let L = skeleton_lists c.args.skeletons.now in
    let heads = c.in_ok-merged.merged.1 in
    let m = c.in_ok-merged.ensures in
    let ring = c.ring.ensures in
    subst (λ (knots : List Knot). IsRing L knots) (sym ring.2)
    (is_ring L c.in_ok-merged.merged.0.items heads.places heads.next m.is_at c.requires.whole m.nothing_goes
    c.in-Some.start ring.0 ring.1)

pub returns-in-Some-clause-none : goal.returns-in-Some-clause-none
returns-in-Some-clause-none c =
    let heads = c.in_ok-merged.merged.1 in
    let some_entry = some_there (next_entry (skeleton_lists c.args.skeletons.now) heads.places c.in-Some.start)
    c.in-Some.ensures.1 in
    c.in_ok-merged.ensures.none c.in-Some.start some_entry.0 some_entry.1
