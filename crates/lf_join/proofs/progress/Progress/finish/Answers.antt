use Rattle.std.proofs.Common.{◌<◌, ◌+◌, ◌^◌, List, map, slice_index, subst, sym, ap, ◌∙◌, arith}
use Rattle.std.proofs.lemmas.List.{length-map}
use Rattle.std.specs.List.{All}
use Rattle.lf_rules.specs.declared.ring.Knot.{Knot}
use Rattle.lf_rules.specs.Ring.{IsRing}
use Rattle.lf_join.specs.Join.{skeleton_lists, IsStuckRing}
use Rattle.lf_join.specs.RunOn.{knot_behind}
use Rattle.lf_join.proofs.OneRing.{stuck_rings_admit_none}
use Rattle.lf_join.proofs.RunOn.{left_short, left_waits, order_of_all, knots_fit, whole_is, whole_is_ring}
use Rattle.lf_join.proofs.RunOn.{whole_is_stuck, none_at_all}
use Rattle.lf_join.proofs.progress.Progress.finish.Goals as goal

pub ring-requires-clause-short : goal.ring-requires-clause-short
ring-requires-clause-short c =
    let logs = c.requires.reached in
    left_short logs.0 c.args.self.now (skeleton_lists c.args.left.now) logs.1 logs.2

pub ring-requires-clause-waits : goal.ring-requires-clause-waits
ring-requires-clause-waits c =
    let heads = c.run_on-heads.result in
    let logs = c.requires.reached in
    left_waits c.args.self.now (skeleton_lists c.args.left.now) heads.places heads.next c.run_on-heads.ensures.on
    c.run_on-heads.ensures.stuck logs.0 logs.1 logs.2

pub whole_ring-requires : goal.whole_ring-requires
whole_ring-requires c =
    let left = skeleton_lists c.args.left.now in
    let heads = c.run_on-heads.result in
    let logs = c.requires.reached in
    let ring = c.ring.ensures in
    subst (λ (knots : List Knot). All (λ knot. (knot.log < 32) ×
    (slice_index c.args.self.now.places knot.log + knot.at < 2 ^ 32)) knots) (sym ring.2)
    (knots_fit c.args.self.now left heads.places heads.next c.run_on-heads.ensures.on c.run_on-heads.ensures.stuck
    logs.0 logs.1 logs.2 c.in-Some.start ring.0 ring.1
    (let len = length-map c.args.left.now (λ skeleton. skeleton.items) in omega (arith, len, c.requires.few)))

pub returns-in-None-clause-order : goal.returns-in-None-clause-order
returns-in-None-clause-order c skeletons logs h =
    let heads = c.run_on-heads.result in
    order_of_all c.args.self.now (skeleton_lists c.args.left.now) heads.places heads.next c.run_on-heads.ensures.on
    c.run_on-heads.ensures.stuck skeletons logs h (none_at_all c.args.left.now heads.places c.in-None.ensures)

pub returns-in-Some-clause-ring : goal.returns-in-Some-clause-ring
returns-in-Some-clause-ring c skeletons logs h =
    let left = skeleton_lists c.args.left.now in
    let reached = c.args.self.now in
    let heads = c.run_on-heads.result in
    let on = c.run_on-heads.ensures.on in
    let stuck = c.run_on-heads.ensures.stuck in
    let first = c.in-Some.ensures in
    let start = c.in-Some.start in
    let ring = c.ring.ensures in
    subst (λ (knots : List Knot). IsStuckRing skeletons knots)
    (sym (c.whole_ring.ensures ∙ ap (map (knot_behind reached.places)) ring.2
    ∙ whole_is reached left heads.places heads.next on stuck skeletons logs h start ring.0 ring.1))
    (whole_is_stuck reached left heads.places heads.next on stuck skeletons logs h start ring.0 ring.1 first.1 first.2)

pub returns-in-Some-clause-shown : goal.returns-in-Some-clause-shown
returns-in-Some-clause-shown c skeletons logs h =
    let left = skeleton_lists c.args.left.now in
    let reached = c.args.self.now in
    let heads = c.run_on-heads.result in
    let on = c.run_on-heads.ensures.on in
    let stuck = c.run_on-heads.ensures.stuck in
    let start = c.in-Some.start in
    let ring = c.ring.ensures in
    subst (λ (knots : List Knot). IsRing skeletons knots)
    (sym (c.whole_ring.ensures ∙ ap (map (knot_behind reached.places)) ring.2
    ∙ whole_is reached left heads.places heads.next on stuck skeletons logs h start ring.0 ring.1))
    (whole_is_ring reached left heads.places heads.next on stuck skeletons logs h start ring.0 ring.1)

pub returns-in-Some-clause-none : goal.returns-in-Some-clause-none
returns-in-Some-clause-none c skeletons logs h =
    stuck_rings_admit_none skeletons c.whole_ring.result.items (returns-in-Some-clause-ring c skeletons logs h)
