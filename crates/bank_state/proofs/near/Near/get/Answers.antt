use Rattle.std.proofs.Common.{ℕ, List, get_or, Option, Some, None, ◌∙◌, sym, ap, refl, arith}
use Rattle.bank_state.proofs.NearBlocks.{at}
use Rattle.bank_state.proofs.NearKeyed.{elsewhere, few, here, leads_to}
use Rattle.bank_state.proofs.near.Near.get.Goals as goal

pub place_in-place-requires : goal.place_in-place-requires
place_in-place-requires c =
    let n = c.self.inside in
    omega (arith, few n.spread n.used n.keys.items n.bytes.items c.self.invariant, n.keys.ok.0, c.len.ensures)

pub returns-then-stands_at : goal.returns-then-stands_at
returns-then-stands_at c =
    let n = c.self.inside in
    let i = c.place_in-place.result in
    sym (ap (at c.args.block) (sym c.self.view_is)
    ∙ here n.spread n.used n.keys.items n.bytes.items c.self.invariant c.args.block i
    (leads_to n.spread n.keys.items c.args.block n.keys.ok.0 c.len.ensures c.place_in-place.ensures.value)
    c.index.result.now
    (ap (λ (ks : List (Option ℕ)). get_or ks i None) (sym c.deref.ensures.value) ∙ c.if-stands_at.ensures.0 refl)
    ∙ ap Some (sym c.index.ensures))

pub returns-else-stands_at : goal.returns-else-stands_at
returns-else-stands_at c =
    let n = c.self.inside in
    let i = c.place_in-place.result in
    sym (ap (at c.args.block) (sym c.self.view_is)
    ∙ elsewhere n.spread n.used n.keys.items n.bytes.items c.self.invariant c.args.block i
    (leads_to n.spread n.keys.items c.args.block n.keys.ok.0 c.len.ensures c.place_in-place.ensures.value)
    (λ taken. let no = c.if-stands_at.ensures.1
    (ap (λ (ks : List (Option ℕ)). get_or ks i None) c.deref.ensures.value ∙ taken) in absurd (cc)))
