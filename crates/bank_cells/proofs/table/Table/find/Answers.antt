use Rattle.std.proofs.Common.{ℕ, ◌<◌, List, length, ap, ◌∙◌, arith}
use Rattle.bank_cells.specs.Index.{found_in}
use Rattle.bank_cells.proofs.Entries.{leads_to, found_here, found_other, found_free}
use Rattle.bank_cells.proofs.table.Table.find.Goals as goal
use Rattle.bank_cells.proofs.table.Table.find.Goals.{then-entry-block-via-then-entry-block}
use Rattle.bank_cells.proofs.table.Table.find.Goals.{then-entry-block-via-else-entry-block+then-entry-eq0}

pub returns-then-entry-block : goal.returns-then-entry-block
returns-then-entry-block c =
    let t = c.self.inside in
    let entries = t.entries.items in
    let leads = leads_to t.spread entries c.args.block t.entries.ok.0 c.len.ensures c.entry_in-at.ensures.value in
    let inside : c.entry_in-at.result < length entries =
    omega (arith, t.entries.ok.0, c.len-2.ensures, c.if-at-len.false) in
    elim c.then-entry-block.branch [
      | then-entry-block-via-then-entry-block w ↦
          found_other t.spread t.used entries c.self.invariant c.args.block c.entry_in-at.result leads inside
          c.index-entry.result.now c.index-entry.ensures w.if-entry-block.true
          ∙ ap (λ (places : List (ℕ × ℕ)). found_in places c.args.block) c.self.view_is
      | then-entry-block-via-else-entry-block+then-entry-eq0 w ↦
          found_free t.spread t.used entries c.self.invariant c.args.block c.entry_in-at.result leads inside
          c.index-entry.result.now c.index-entry.ensures w.if-entry-eq0.true
          ∙ ap (λ (places : List (ℕ × ℕ)). found_in places c.args.block) c.self.view_is
    ]

pub returns : goal.returns
returns c =
    let t = c.self.inside in
    let entries = t.entries.items in
    let leads = leads_to t.spread entries c.args.block t.entries.ok.0 c.len.ensures c.entry_in-at.ensures.value in
    let inside : c.entry_in-at.result < length entries =
    omega (arith, t.entries.ok.0, c.len-2.ensures, c.if-at-len.false) in
    found_here t.spread t.used entries c.self.invariant c.args.block c.entry_in-at.result leads inside
    c.index-entry.result.now c.index-entry.ensures c.if-entry-block.false c.if-entry-eq0.false
    ∙ ap (λ (places : List (ℕ × ℕ)). found_in places c.args.block) c.self.view_is
