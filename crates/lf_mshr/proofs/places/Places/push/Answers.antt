use Rattle.std.proofs.Common.{◌≡◌, ℕ, List, ◌||◌, ◌==◌, length, sym, ap, ◌∙◌, subst, arith}
use Rattle.std.proofs.lemmas.List.{with_items_is}
use Rattle.lf_mshr.specs.Places.{is_marked}
use Rattle.lf_mshr.proofs.Chain.{last-le, len-le, count-is, chain-push}
use Rattle.lf_mshr.proofs.places.Places.push.Goals as goal

pub index_mut-requires-2 : goal.index_mut-requires-2
index_mut-requires-2 g c =
    let p = c.self.inside in
    let low = last-le p.items.items p.next.items p.used.items p.end p.last p.len c.self.invariant in
    let links = c.self.invariant.links in
    rw c.from-2.ensures (omega (arith, low, links))

pub overflow_add-self : goal.overflow_add-self
overflow_add-self g c =
    let p = c.self.inside in
    let few = len-le p.items.items p.next.items p.used.items p.end p.last p.len c.self.invariant in
    omega (arith, few)

pub invariant_of-self : goal.invariant_of-self
invariant_of-self g c =
    let p = c.self.inside in
    let there = rw (← c.self.view_is) at c.requires.there in
    let free = rw (← c.self.view_is) at c.requires.free in
    let same : c.deref_mut.result.now ≡ p.used.items = c.deref_mut.ensures.value in
    let long : length c.mark.new.words ≡ length p.used.items =
    c.mark.ensures.long ∙ ap (λ (ws : List ℕ). length ws) same in
    let bits = subst (λ (ws : List ℕ). (b : ℕ) → is_marked c.mark.new.words b ≡ (b == c.args.place || is_marked ws b))
    same c.mark.ensures.bits in
    rw (c.from.ensures, c.from-2.ensures, with_items_is p.used c.mark.new.words (long ∙ sym p.used.ok.0))
    (chain-push p.items.items p.next.items p.used.items p.end p.last p.len c.self.invariant c.args.place c.args.item
    c.mark.new.words there free long bits).0

pub returns-clause-order : goal.returns-clause-order
returns-clause-order g c =
    let p = c.self.inside in
    let there = rw (← c.self.view_is) at c.requires.there in
    let free = rw (← c.self.view_is) at c.requires.free in
    let same : c.deref_mut.result.now ≡ p.used.items = c.deref_mut.ensures.value in
    let long : length c.mark.new.words ≡ length p.used.items =
    c.mark.ensures.long ∙ ap (λ (ws : List ℕ). length ws) same in
    let bits = subst (λ (ws : List ℕ). (b : ℕ) → is_marked c.mark.new.words b ≡ (b == c.args.place || is_marked ws b))
    same c.mark.ensures.bits in
    rw (c.from.ensures, c.from-2.ensures, ← c.self.view_is)
    (chain-push p.items.items p.next.items p.used.items p.end p.last p.len c.self.invariant c.args.place c.args.item
    c.mark.new.words there free long bits).1

pub returns-clause-few : goal.returns-clause-few
returns-clause-few g c =
    let chain = invariant_of-self g c in
    omega (arith, len-le _ _ _ _ _ _ chain, count-is _ _ _ _ _ _ chain)
