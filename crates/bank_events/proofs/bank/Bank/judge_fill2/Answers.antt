use Rattle.std.proofs.Common.{◌≡◌, ◌∙◌, true, sym, rules}
use Rattle.lf_rules.specs.declared.rule.Rule.TheVariants.{NotFetched, SetFull, FillData}
use Rattle.bank_cells.specs.Cells.{second_at}
use Rattle.bank_events.specs.Known.{is_second_in_flight}
use Rattle.bank_events.specs.KnownRules.{set2}
use Rattle.bank_events.proofs.Counted.{count_room}
use Rattle.bank_events.proofs.Judged.{three_hold, third_fails}
use Rattle.bank_events.proofs.bank.Bank.judge_fill2.Goals as goal

pub returns-then-not-wide_agrees-clause-broken : goal.returns-then-not-wide_agrees-clause-broken
returns-then-not-wide_agrees-clause-broken g c =
    let second = c.args.second in
    let there = sym c.find_second.ensures ∙ c.in-Some.is in
    let flight : is_second_in_flight (second_at c.self.inside.cells second) ≡ true = search rules in
    let set = rw (← c.self.view_is) at c.set2-set.ensures.set in
    let inside = rw (← c.self.view_is) at c.set2-set.ensures.inside in
    let room = count_room c.self.inside.counts2.items c.set2-set.result (set2 c.self.inside.shape second)
    c.index.result.now c.self.inside.shape.level2.ways inside set c.index.ensures c.if-index-self.false in
    rw (← c.self.view_is) (λ log waiting regs2. third_fails NotFetched SetFull FillData _ _ _ flight room
    (sym (c.wide_agrees.ensures second there) ∙ c.if-not-wide_agrees.true))

pub returns-clause-kept : goal.returns-clause-kept
returns-clause-kept g c =
    let second = c.args.second in
    let there = sym c.find_second.ensures ∙ c.in-Some.is in
    let flight : is_second_in_flight (second_at c.self.inside.cells second) ≡ true = search rules in
    let set = rw (← c.self.view_is) at c.set2-set.ensures.set in
    let inside = rw (← c.self.view_is) at c.set2-set.ensures.inside in
    let room = count_room c.self.inside.counts2.items c.set2-set.result (set2 c.self.inside.shape second)
    c.index.result.now c.self.inside.shape.level2.ways inside set c.index.ensures c.if-index-self.false in
    rw (← c.self.view_is) (λ log waiting regs2. three_hold NotFetched SetFull FillData _ _ _ flight room
    (sym (c.wide_agrees.ensures second there) ∙ c.if-not-wide_agrees.false))
