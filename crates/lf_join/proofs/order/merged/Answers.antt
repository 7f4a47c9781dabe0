use Rattle.std.proofs.Common.{ℕ, List, length, subst, sym, ap, ◌∙◌, arith}
use Rattle.std.proofs.lemmas.List.{length_push}
use Rattle.lf_join.specs.Join.{skeleton_lists}
use Rattle.lf_join.proofs.Merge.{Ongoing, at_start, one_more, all_gone, is_shorter, past_all}
use Rattle.lf_join.proofs.OwnEntries.{its_own, first_goes, none_below, none_goes}
use Rattle.lf_join.proofs.order.merged.Goals as goal

pub loop-log-init : goal.loop-log-init
loop-log-init c =
    let L = skeleton_lists c.args.skeletons.now in (
      rw (c.new-order.ensures.items, c.new-heads.ensures.places, c.new-heads.ensures.next) (at_start L),
      c.new-roster.ensures,
    )

pub let_go-requires-clause-own : goal.let_go-requires-clause-own
let_go-requires-clause-own c =
    let L = skeleton_lists c.args.skeletons.now in
    let heads = c.loop-log.heads in
    let goes = first_goes L heads.places heads.next c.loop-log.roster c.loop-log.invariant.1 c.in-Some.log
    c.in-Some.ensures in
    its_own L c.loop-log.order.items heads.places heads.next c.in-Some.log c.loop-log.invariant.0.is_at
    c.requires.whole goes

pub loop-log-smaller : goal.loop-log-smaller
loop-log-smaller c =
    let L = skeleton_lists c.args.skeletons.now in
    let gone = c.let_go.ensures.gone in
    let shorter = is_shorter L c.loop-log.order.items c.loop-log.heads.places c.loop-log.heads.next c.in-Some.log
    gone.entry c.loop-log.invariant.0.is_at gone.there in
    let longer = ap length c.in_ok-push.ensures.items ∙ length_push c.loop-log.order.items c.in-Some.log in
    omega (arith, shorter, longer)

pub loop-log-preserved : goal.loop-log-preserved
loop-log-preserved c =
    let L = skeleton_lists c.args.skeletons.now in
    let heads = c.loop-log.heads in
    let new = c.let_go.new.heads in
    let log = c.in-Some.log in
    let first = c.in-Some.ensures in
    let stand = c.loop-log.invariant.1 in (
      subst (λ (os : List ℕ). Ongoing L os new.places new.next) (sym c.in_ok-push.ensures.items)
          (one_more L c.loop-log.order.items heads.places heads.next c.loop-log.invariant.0 log new.places new.next
          first.is_log
          (first_goes L heads.places heads.next c.loop-log.roster stand log first)
          (none_below L heads.places heads.next c.loop-log.roster stand log first) c.let_go.ensures.gone),
      c.let_go.ensures.stand,
    )

pub returns : goal.returns
returns c =
    let skeletons = c.args.skeletons.now in
    let heads = c.loop-log.heads in
    let few = c.requires.few in
    all_gone (skeleton_lists skeletons) c.loop-log.order.items heads.places heads.next c.loop-log.invariant.0
    (past_all skeletons heads.places heads.next
    (λ log lt. none_goes (skeleton_lists skeletons) heads.places heads.next c.loop-log.roster c.loop-log.invariant.1
    c.in_default.ensures log (omega (arith, lt, few))))
