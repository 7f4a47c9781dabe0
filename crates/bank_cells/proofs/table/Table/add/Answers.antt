use Rattle.std.proofs.Common.{◌≡◌, ℕ, ◌<◌, List, Some, length, cond, ap, ◌∙◌, arith}
use Rattle.std.specs.Prelude.{nat_eq}
use Rattle.bank_cells.specs.Index.{found_in}
use Rattle.bank_cells.proofs.Entries.{leads_to, few, used_within, one_above, table_with, blocks_with}
use Rattle.bank_cells.proofs.table.Table.add.Goals as goal

pub overflow_add-self : goal.overflow_add-self
overflow_add-self c =
    let t = c.self.inside in
    omega (
      arith,
      used_within t.spread t.used t.entries.items c.self.invariant,
      few t.spread t.used t.entries.items c.self.invariant,
    )

pub invariant_of-self : goal.invariant_of-self
invariant_of-self c =
    let t = c.self.inside in
    let entries = t.entries.items in
    let leads = leads_to t.spread entries c.args.block t.entries.ok.0 c.len.ensures c.entry_in-at.ensures.value in
    let inside : c.entry_in-at.result < length entries =
    omega (arith, t.entries.ok.0, c.len-2.ensures, c.if-at-len.false) in
    let none : c.index.result.now.above ≡ 0 = omega (arith, c.if-index-gt0.false) in
    table_with t.spread t.used entries c.self.invariant c.args.block c.entry_in-at.result leads inside
    c.index.result.now c.index.ensures none c.args.place _ (one_above c.args.block c.args.place)

pub returns-clause-added : goal.returns-clause-added
returns-clause-added c = λ _ q.
    let t = c.self.inside in
    let entries = t.entries.items in
    let leads = leads_to t.spread entries c.args.block t.entries.ok.0 c.len.ensures c.entry_in-at.ensures.value in
    let inside : c.entry_in-at.result < length entries =
    omega (arith, t.entries.ok.0, c.len-2.ensures, c.if-at-len.false) in
    let none : c.index.result.now.above ≡ 0 = omega (arith, c.if-index-gt0.false) in
    blocks_with t.spread t.used entries c.self.invariant c.args.block c.entry_in-at.result leads inside
    c.index.result.now c.index.ensures none c.args.place _ (one_above c.args.block c.args.place) q
    ∙ ap (λ (places : List (ℕ × ℕ)). cond (nat_eq c.args.block q) (Some c.args.place) (found_in places q))
    c.self.view_is
