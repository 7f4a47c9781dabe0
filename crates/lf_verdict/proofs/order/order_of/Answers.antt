use Rattle.std.proofs.Common.{◌≤◌, ◌^◌, List, length, ℕ, sym, ◌∙◌, ap, subst}
use Rattle.lf_join.specs.Join.{BanksAreWhole}
use Rattle.lf_join.specs.Join as joins
use Rattle.lf_rules.specs.Lists.{lists_of}
use Rattle.std.specs.List.{All}
use Rattle.lf_verdict.proofs.Skeletons.{banks_whole, skeletons_short}
use Rattle.lf_verdict.proofs.order.order_of.Goals as goal

pub least_order-requires-clause-whole : goal.least_order-requires-clause-whole
least_order-requires-clause-whole c =
    let same = ap joins.skeleton_lists c.deref.ensures.value ∙ c.in_ok-all.ensures in
    subst BanksAreWhole (sym same) (banks_whole (lists_of c.args.logs.now) c.requires.whole)

pub least_order-requires-clause-short : goal.least_order-requires-clause-short
least_order-requires-clause-short c =
    let same = ap joins.skeleton_lists c.deref.ensures.value ∙ c.in_ok-all.ensures in
    subst (All (λ (entries : List (ℕ × ℕ)). length entries ≤ 2 ^ 24)) (sym same)
    (skeletons_short c.args.logs.now (2 ^ 24) c.requires.short)
