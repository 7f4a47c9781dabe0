use Rattle.std.proofs.Common.{List, map, sym, subst, refl, rules, arith}
use Rattle.bank_cells.specs.declared.table.Entry.{Entry}
use Rattle.bank_cells.specs.Index.{stands_in, IsTable}
use Rattle.bank_cells.proofs.Entries.{used_within, free_table}
use Rattle.bank_cells.proofs.table.Table.make_room.Goals as goal

pub invariant_of-self : goal.invariant_of-self
invariant_of-self c =
    let t = c.self.inside in
    free_table (record { block = 0; above = 0 }) refl t.spread t.used 64 _
    (c.in_ok-self-inside.ensures.items_if_clones_equal (λ y h. search rules)) (omega arith)
    (omega (
      arith,
      used_within t.spread t.used t.entries.items c.self.invariant,
      t.entries.ok.0,
      c.len-count.ensures,
      c.if-count-eq0.true,
    ))

pub invariant_of-self-then-count-le-MOST_ENTRIES : goal.invariant_of-self-then-count-le-MOST_ENTRIES
invariant_of-self-then-count-le-MOST_ENTRIES c =
    let t = c.self.inside in
    c.in_ok-self-inside-2.ensures.table t.used
    (subst (λ (es : List Entry). IsTable t.spread t.used (map stands_in es)) (sym c.deref.ensures.value)
    c.self.invariant)
