use Rattle.std.proofs.Common.{◌≡◌, ◌+◌, ◌<◌, List, [], length, get_or, sym, ap, ◌∙◌, subst, arith}
use Rattle.std.proofs.lemmas.List.{with_items_is}
use Rattle.lf_logs.specs.declared.order.Tally.{Tally}
use Rattle.lf_logs.specs.Tallies.{AreTallies}
use Rattle.lf_logs.proofs.Joined.{of_first, of_first-more, of_first-le}
use Rattle.lf_logs.proofs.Tallying.{times-le}
use Rattle.lf_logs.proofs.order.tallies_of.Goals as goal

pub count_log-requires-clause-low : goal.count_log-requires-clause-low
count_log-requires-clause-low g c k d h =
    let lists = g.L.LogRecords.lists c.args.logs.now in
    let seen = of_first c.loop-log.log lists in
    let same = c.deref_mut.ensures.value in
    let tally = ap (λ ts. (get_or ts k d).times) same in
    let counted = (c.loop-log.invariant.counted k d (omega (arith, ap length same))).counted in
    omega (
      arith,
      tally,
      counted,
      times-le k c.args.bank seen,
      c.log_count-log-end.ensures,
      c.loop-log-test.true,
      of_first-le c.args.bank lists c.requires.short c.loop-log.log
          (omega (arith, c.log_count-log-end.ensures, c.loop-log-test.true)),
      c.requires.few,
    )

pub loop-log-preserved : goal.loop-log-preserved
loop-log-preserved g c =
    let lists = g.L.LogRecords.lists c.args.logs.now in
    let bank = c.args.bank in
    let at = c.loop-log.log in
    let seen = of_first at lists in
    let new = c.count_log.new.tallies in
    let inside : at < length lists = omega (arith, c.log_count-log-end.ensures, c.loop-log-test.true) in
    let same : c.deref_mut.result.now ≡ c.loop-log.tallies.items = c.deref_mut.ensures.value in
    let long : length new ≡ length c.loop-log.tallies.items =
    c.count_log.auto.tallies ∙ ap (λ (ts : List Tally). length ts) same in
    let now = with_items_is c.loop-log.tallies new (long ∙ sym c.loop-log.tallies.ok.0) in
    let before = subst (λ ts. AreTallies lists bank seen ts) (sym same) c.loop-log.invariant.counted in
    let after = c.count_log.ensures seen before in
    record {
      len = ap (λ (ts : List Tally). length ts) now ∙ long ∙ c.loop-log.invariant.len;
      counted = subst (λ ts. AreTallies lists bank (of_first (at + 1) lists) ts) (sym now)
          (subst (λ xs. AreTallies lists bank xs new) (sym (of_first-more lists at [] inside)) after);
    }
