use Rattle.std.proofs.Common.{◌≡◌, ◌∙◌, true, sym, rules}
use Rattle.lf_rules.specs.declared.rule.Rule.TheVariants.{EvictAbsent, Inclusion, EvictMask, EvictData}
use Rattle.bank_cells.specs.Cells.{second_at}
use Rattle.bank_events.specs.Known.{is_second_present}
use Rattle.bank_events.proofs.Judged.{second_of_four, third_of_four, fourth_of_four, four_hold}
use Rattle.bank_events.proofs.bank.Bank.judge_evict2.Goals as goal

pub returns-then-not-all_absent-clause-broken : goal.returns-then-not-all_absent-clause-broken
returns-then-not-all_absent-clause-broken g c =
    let second = c.args.second in
    let there = sym c.find_second.ensures ∙ c.in-Some.is in
    let present : is_second_present (second_at c.self.inside.cells second) ≡ true = search rules in
    rw (← c.self.view_is) (λ log waiting regs2. second_of_four EvictAbsent Inclusion EvictMask EvictData _ _ _ _
    present (sym (c.all_absent.ensures second there) ∙ c.if-not-all_absent.true))

pub returns-then-not-are_dirty-clause-broken : goal.returns-then-not-are_dirty-clause-broken
returns-then-not-are_dirty-clause-broken g c =
    let second = c.args.second in
    let there = sym c.find_second.ensures ∙ c.in-Some.is in
    let present : is_second_present (second_at c.self.inside.cells second) ≡ true = search rules in
    rw (← c.self.view_is) (λ log waiting regs2. third_of_four EvictAbsent Inclusion EvictMask EvictData _ _ _ _
    present (sym (c.all_absent.ensures second there) ∙ c.if-not-all_absent.false)
    (sym (c.are_dirty.ensures second there) ∙ c.if-not-are_dirty.true))

pub returns-then-not-wide_carries-clause-broken : goal.returns-then-not-wide_carries-clause-broken
returns-then-not-wide_carries-clause-broken g c =
    let second = c.args.second in
    let there = sym c.find_second.ensures ∙ c.in-Some.is in
    let present : is_second_present (second_at c.self.inside.cells second) ≡ true = search rules in
    rw (← c.self.view_is) (λ log waiting regs2. fourth_of_four EvictAbsent Inclusion EvictMask EvictData _ _ _ _
    present (sym (c.all_absent.ensures second there) ∙ c.if-not-all_absent.false)
    (sym (c.are_dirty.ensures second there) ∙ c.if-not-are_dirty.false)
    (sym (c.wide_carries.ensures second there) ∙ c.if-not-wide_carries.true))

pub returns-clause-kept : goal.returns-clause-kept
returns-clause-kept g c =
    let second = c.args.second in
    let there = sym c.find_second.ensures ∙ c.in-Some.is in
    let present : is_second_present (second_at c.self.inside.cells second) ≡ true = search rules in
    rw (← c.self.view_is) (λ log waiting regs2. four_hold EvictAbsent Inclusion EvictMask EvictData _ _ _ _
    present (sym (c.all_absent.ensures second there) ∙ c.if-not-all_absent.false)
    (sym (c.are_dirty.ensures second there) ∙ c.if-not-are_dirty.false)
    (sym (c.wide_carries.ensures second there) ∙ c.if-not-wide_carries.false))
