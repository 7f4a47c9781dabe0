use Rattle.std.proofs.Common.{◌≤◌, ◌^◌, ℕ, List, length, sym, ap, ◌∙◌, subst, arith}
use Rattle.std.proofs.lemmas.Result.{err_from_is_err_and, IfOk-weaker, IfErr-weaker}
use Rattle.std.specs.Global.{Vec}
use Rattle.std.specs.List.{All}
use Rattle.lf_rules.specs.Order.{IsLeastOrder}
use Rattle.lf_join.specs.Join as joins
use Rattle.lf_join.specs.Join.{BanksAreWhole}
use Rattle.lf_verdict.specs.inner.Jobs.{IsOrderEnding}
use Rattle.lf_verdict.specs.inner.Ending.{IsEnding, IsOrderOf}
use Rattle.lf_verdict.specs.inner.Coming.{logs_so_far}
use Rattle.lf_verdict.proofs.Settled.{few_logs, order_ending, skeletons_short, skeletons_whole}
use Rattle.lf_verdict.proofs.session.standing.Standing.judged_order.Goals as goal

pub returns-in_err-judge_numbers-clause-fault : goal.returns-in_err-judge_numbers-clause-fault
returns-in_err-judge_numbers-clause-fault c shape memory records stands short =
    let p = err_from_is_err_and c.from_residual.result c.from_residual.ensures.1 in
    rw (p.1, p.2) (c.in_err-judge_numbers.ensures.fault shape memory records stands)

pub returns-in_err-judge_rules-clause-fault : goal.returns-in_err-judge_rules-clause-fault
returns-in_err-judge_rules-clause-fault c shape memory records stands short =
    let p = err_from_is_err_and c.from_residual-in_err-judge_rules.result c.from_residual-in_err-judge_rules.ensures.1
    in
    rw (p.1, p.2) (c.in_err-judge_rules.ensures.fault shape memory records stands
    (c.in_ok-judge_numbers.ensures.whole shape memory records stands))

pub least_order-requires-clause-few : goal.least_order-requires-clause-few
least_order-requires-clause-few c =
    let r = c.requires.end in
    omega (arith, ap length c.deref.ensures.value, few_logs r.shape r.memory r.records c.args.self.now r.stands r.short)

pub least_order-requires-clause-short : goal.least_order-requires-clause-short
least_order-requires-clause-short c =
    let r = c.requires.end in
    let same = ap joins.skeleton_lists c.deref.ensures.value ∙ r.stands.entered.kept.all c.requires.kept in
    subst (All (λ (entries : List (ℕ × ℕ)). length entries ≤ 2 ^ 24)) (sym same)
    (skeletons_short r.shape r.memory r.records c.args.self.now r.stands r.short)

pub least_order-requires-clause-whole : goal.least_order-requires-clause-whole
least_order-requires-clause-whole c =
    let r = c.requires.end in
    let same = ap joins.skeleton_lists c.deref.ensures.value ∙ r.stands.entered.kept.all c.requires.kept in
    subst BanksAreWhole (sym same) (skeletons_whole r.shape r.memory r.records c.args.self.now r.stands r.short
    (c.in_ok-judge_numbers.ensures.whole r.shape r.memory r.records r.stands))

pub returns-clause-order : goal.returns-clause-order
returns-clause-order c shape memory records stands short =
    let same = ap joins.skeleton_lists c.deref.ensures.value ∙ stands.entered.kept.all c.requires.kept in
    IfOk-weaker c.least_order.result _ (λ (order : Vec ℕ). IsOrderOf shape memory (logs_so_far shape records)
    order.items)
    (λ (order : Vec ℕ) least. record {
      parts = c.in_ok-judge_rules.ensures.run shape memory records stands
          (c.in_ok-judge_numbers.ensures.whole shape memory records stands);
      least = subst (λ (ls : List (List (ℕ × ℕ))). IsLeastOrder ls order.items) same least;
    })
    c.least_order.ensures.order

pub returns-clause-fault : goal.returns-clause-fault
returns-clause-fault c shape memory records stands short =
    let same = ap joins.skeleton_lists c.deref.ensures.value ∙ stands.entered.kept.all c.requires.kept in
    let parts = c.in_ok-judge_rules.ensures.run shape memory records stands
    (c.in_ok-judge_numbers.ensures.whole shape memory records stands) in
    IfErr-weaker c.least_order.result _ (IsEnding shape memory (logs_so_far shape records))
    (λ ending is. order_ending shape memory (logs_so_far shape records) ending parts
    (subst (λ (ls : List (List (ℕ × ℕ))). IsOrderEnding ls ending) same is))
    c.least_order.ensures.ring
