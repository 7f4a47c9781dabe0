use Rattle.std.proofs.Common.{ℕ, List, [], ◌∷◌, ◌+◌, length, true, sym, subst, ap, ◌∙◌, arith}
use Rattle.std.proofs.lemmas.List.{length-append}
use Rattle.wave_order.specs.OrderTo.{IsOrderTo}
use Rattle.wave_order.specs.Ordered.{in_order, left_by}
use Rattle.wave_order.proofs.Going.{Going, ends_here, goes_on_in_log, goes_on_elsewhere}
use Rattle.wave_order.proofs.front.order_to.Goals as goal

pub returns-then-is : goal.returns-then-is
returns-then-is c records has =
    let sought = c.args.sought in
    let times = c.args.times.now in
    let order = c.loop-entry.logs.items in
    let going = c.loop-entry.invariant.going records has in
    let comes = c.in-Some.ensures.first (in_order order records) (left_by order records) going.left in
    subst (λ (os : List ℕ). IsOrderTo times sought records os true) (sym c.in_ok-push.ensures.items)
    (ends_here times sought c.loop-entry.left c.take.new.self order c.loop-entry.before records going c.in-Some.entry comes
    (sym c.if-is.ensures))

pub loop-entry-preserved-then-counts : goal.loop-entry-preserved-then-counts
loop-entry-preserved-then-counts c =
    let sought = c.args.sought in
    let times = c.args.times.now in
    let order = c.loop-entry.logs.items in
    let before = c.loop-entry.before in
    let longer = ap length c.in_ok-push.ensures.items ∙ length-append order (c.in-Some.entry.log ∷ []) in
    record {
      few = omega (arith, c.loop-entry.invariant.few, longer);
      going = λ records has.
          let going = c.loop-entry.invariant.going records has in
          let comes = c.in-Some.ensures.first (in_order order records) (left_by order records) going.left in
          subst (λ (os : List ℕ). Going times sought c.take.new.self os (before + 1) records)
          (sym c.in_ok-push.ensures.items)
          (goes_on_in_log times sought c.loop-entry.left c.take.new.self order before records going c.in-Some.entry comes
          (sym c.if-counts.ensures));
    }

pub loop-entry-preserved : goal.loop-entry-preserved
loop-entry-preserved c =
    let sought = c.args.sought in
    let times = c.args.times.now in
    let order = c.loop-entry.logs.items in
    let before = c.loop-entry.before in
    let longer = ap length c.in_ok-push.ensures.items ∙ length-append order (c.in-Some.entry.log ∷ []) in
    record {
      few = omega (arith, c.loop-entry.invariant.few, longer);
      going = λ records has.
          let going = c.loop-entry.invariant.going records has in
          let comes = c.in-Some.ensures.first (in_order order records) (left_by order records) going.left in
          subst (λ (os : List ℕ). Going times sought c.take.new.self os before records) (sym c.in_ok-push.ensures.items)
          (goes_on_elsewhere times sought c.loop-entry.left c.take.new.self order before records going c.in-Some.entry comes
          (sym c.if-counts.ensures));
    }
