use Rattle.std.proofs.Common.{ℕ, List, Some, ◌∙◌, sym, ap, refl, cond, arith}
use Rattle.std.specs.Prelude.{nat_eq}
use Rattle.bank_state.proofs.NearBlocks.{at}
use Rattle.bank_state.proofs.NearKeyed.{elsewhere, few, leads_to, key_at, used_within, new_keyed, same_keyed}
use Rattle.bank_state.proofs.NearKeyed.{with_new, with_same}
use Rattle.bank_state.proofs.near.Near.add.Goals as goal
use Rattle.bank_state.proofs.near.Near.add.Goals.{in-Some+else-key-block, in-None}

pub place_in-place-requires : goal.place_in-place-requires
place_in-place-requires c =
    let n = c.self.inside in
    omega (arith, few n.spread n.used n.keys.items n.bytes.items c.self.invariant, n.keys.ok.0, c.len.ensures)

pub returns-in-Some-clause-other : goal.returns-in-Some-clause-other
returns-in-Some-clause-other c = λ _.
    let n = c.self.inside in
    let i = c.place_in-place.result in
    let there = key_at n.keys.items c.index.result.now n.keys.ok.0 c.len-2.ensures c.if-place-len.false
    c.index.ensures in (
      refl,
      ap (at c.args.block) (sym c.self.view_is)
          ∙ elsewhere n.spread n.used n.keys.items n.bytes.items c.self.invariant c.args.block i
          (leads_to n.spread n.keys.items c.args.block n.keys.ok.0 c.len.ensures c.place_in-place.ensures.value)
          (λ taken. let same = sym c.in-Some.is ∙ sym there.1 ∙ taken in c.if-key-block.true (cc)),
    )

pub overflow_add-self : goal.overflow_add-self
overflow_add-self c =
    let n = c.self.inside in
    omega (
      arith,
      used_within n.spread n.used n.keys.items n.bytes.items c.self.invariant,
      few n.spread n.used n.keys.items n.bytes.items c.self.invariant,
    )

pub invariant_of-self : goal.invariant_of-self
invariant_of-self c =
    let n = c.self.inside in
    let i = c.place_in-place.result in
    let leads = leads_to n.spread n.keys.items c.args.block n.keys.ok.0 c.len.ensures
    c.place_in-place.ensures.value in
    let there = key_at n.keys.items c.index.result.now n.keys.ok.0 c.len-2.ensures c.if-place-len.false
    c.index.ensures in
    elim c.match-index.branch [
      | in-Some+else-key-block w ↦ rw w.self-inside-is
          (same_keyed n.spread n.used n.keys.items n.bytes.items c.self.invariant c.args.block i leads there.0
          c.args.bytes (there.1 ∙ w.in-Some.is ∙ ap Some w.if-key-block.false))
      | in-None w ↦ rw w.self-inside-is
          (new_keyed n.spread n.used n.keys.items n.bytes.items c.self.invariant c.args.block i leads there.0
          c.args.bytes (there.1 ∙ w.in-None.is))
    ]

pub returns-clause-added : goal.returns-clause-added
returns-clause-added c =
    let n = c.self.inside in
    let i = c.place_in-place.result in
    let leads = leads_to n.spread n.keys.items c.args.block n.keys.ok.0 c.len.ensures
    c.place_in-place.ensures.value in
    let there = key_at n.keys.items c.index.result.now n.keys.ok.0 c.len-2.ensures c.if-place-len.false
    c.index.ensures in
    let seen = λ (q : ℕ). ap (λ (es : List (ℕ × List ℕ)). cond (nat_eq c.args.block q) (Some c.args.bytes) (at q es))
    c.self.view_is in
    elim c.match-index.branch [
      | in-Some+else-key-block w ↦ rw w.self-inside-is (λ _ q.
          with_same n.spread n.used n.keys.items n.bytes.items c.self.invariant c.args.block i leads there.0
          c.args.bytes (there.1 ∙ w.in-Some.is ∙ ap Some w.if-key-block.false) q ∙ seen q)
      | in-None w ↦ rw w.self-inside-is (λ _ q.
          with_new n.spread n.used n.keys.items n.bytes.items c.self.invariant c.args.block i leads there.0
          c.args.bytes (there.1 ∙ w.in-None.is) q ∙ seen q)
    ]
