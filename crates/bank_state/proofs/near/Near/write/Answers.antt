use Rattle.std.proofs.Common.{ℕ, List, get_or, Option, Some, None, ◌∙◌, sym, ap, refl, arith, cond}
use Rattle.std.specs.Prelude.{nat_eq}
use Rattle.bank_state.proofs.NearBlocks.{at}
use Rattle.bank_state.proofs.NearKeyed.{elsewhere, few, here, leads_to, within_keys, rewritten_keyed, with_rewritten}
use Rattle.bank_state.proofs.near.Near.write.Goals as goal

pub place_in-place-requires : goal.place_in-place-requires
place_in-place-requires c =
    let n = c.self.inside in
    omega (arith, few n.spread n.used n.keys.items n.bytes.items c.self.invariant, n.keys.ok.0, c.len.ensures)

pub returns-then-not-stands_at-clause-absent : goal.returns-then-not-stands_at-clause-absent
returns-then-not-stands_at-clause-absent c = λ _.
    let n = c.self.inside in
    let i = c.place_in-place.result in (
      refl,
      ap (at c.args.block) (sym c.self.view_is)
          ∙ elsewhere n.spread n.used n.keys.items n.bytes.items c.self.invariant c.args.block i
          (leads_to n.spread n.keys.items c.args.block n.keys.ok.0 c.len.ensures c.place_in-place.ensures.value)
          (λ taken. let no = c.if-not-stands_at.ensures.1
          (ap (λ (ks : List (Option ℕ)). get_or ks i None) c.deref.ensures.value ∙ taken) in absurd (cc)),
    )

pub invariant_of-self : goal.invariant_of-self
invariant_of-self c =
    let n = c.self.inside in
    let i = c.place_in-place.result in
    let taken = ap (λ (ks : List (Option ℕ)). get_or ks i None) (sym c.deref.ensures.value)
    ∙ c.if-not-stands_at.ensures.0 refl in
    rewritten_keyed n.spread n.used n.keys.items n.bytes.items c.self.invariant c.args.block i
    (leads_to n.spread n.keys.items c.args.block n.keys.ok.0 c.len.ensures c.place_in-place.ensures.value)
    (within_keys n.keys.items i c.args.block taken) c.put.new.bytes taken

pub returns-clause-here : goal.returns-clause-here
returns-clause-here c = λ _.
    let n = c.self.inside in
    let i = c.place_in-place.result in
    let taken = ap (λ (ks : List (Option ℕ)). get_or ks i None) (sym c.deref.ensures.value)
    ∙ c.if-not-stands_at.ensures.0 refl in
    let leads = leads_to n.spread n.keys.items c.args.block n.keys.ok.0 c.len.ensures
    c.place_in-place.ensures.value in (
      c.index_mut.result.now,
      (
        c.put.new.bytes,
        (
          ap (at c.args.block) (sym c.self.view_is)
              ∙ here n.spread n.used n.keys.items n.bytes.items c.self.invariant c.args.block i leads
              c.index_mut.result.now taken ∙ ap Some (sym c.index_mut.ensures.value),
          c.put.ensures,
          λ q.
              with_rewritten n.spread n.used n.keys.items n.bytes.items c.self.invariant c.args.block i leads
              (within_keys n.keys.items i c.args.block taken) c.put.new.bytes taken q
              ∙ ap (λ (es : List (ℕ × List ℕ)). cond (nat_eq c.args.block q) (Some c.put.new.bytes) (at q es))
              c.self.view_is,
        ),
      ),
    )
