use Rattle.std.proofs.Common.{◌≡◌, ◌-◌, ◌||◌, get_or, slice_index, sym, ap, ◌∙◌, eq-eqb, ne_eqb, arith}
use Rattle.std.proofs.lemmas.List.{get_or_default}
use Rattle.lf_rules.specs.Registers.{Held, holds}
use Rattle.lf_mshr.specs.Places.{held_of, placed, walk}
use Rattle.lf_mshr.proofs.Chain.{first-below, rest-below, holds-step}
use Rattle.lf_mshr.proofs.places.Places.holds.Goals as goal

pub index-requires : goal.index-requires
index-requires g c =
    let p = c.self.inside in
    let links = c.self.invariant.links in
    let long = c.self.invariant.long in
    let low = c.loop-left.invariant.low in
    let at_is : c.index-at.result.now ≡ slice_index p.next.items c.loop-left.at =
    c.index-at.ensures ∙ ap (λ i. get_or p.next.items i c.index-at.result.now) c.from.ensures
    ∙ get_or_default p.next.items c.loop-left.at c.index-at.result.now 0 (omega (arith, links, low)) in
    let fits = first-below (slice_index p.next.items) c.loop-left.at c.loop-left.left p.end c.loop-left-test.true
    c.loop-left.invariant.below in
    rw (c.from-in-loop-left.ensures, at_is) (omega (arith, fits, long))

pub returns-then-block : goal.returns-then-block
returns-then-block g c =
    let p = c.self.inside in
    let links = c.self.invariant.links in
    let long = c.self.invariant.long in
    let low = c.loop-left.invariant.low in
    let at_is : c.index-at.result.now ≡ slice_index p.next.items c.loop-left.at =
    c.index-at.ensures ∙ ap (λ i. get_or p.next.items i c.index-at.result.now) c.from.ensures
    ∙ get_or_default p.next.items c.loop-left.at c.index-at.result.now 0 (omega (arith, links, low)) in
    let fits = first-below (slice_index p.next.items) c.loop-left.at c.loop-left.left p.end c.loop-left-test.true
    c.loop-left.invariant.below in
    let item : c.index.result.now ≡ get_or p.items.items (slice_index p.next.items c.loop-left.at) c.index.result.now =
    c.index.ensures ∙ ap (λ i. get_or p.items.items i c.index.result.now) (c.from-in-loop-left.ensures ∙ at_is) in
    let here = eq-eqb _ c.args.block (ap (λ (h : Held _). h.block) (sym item) ∙ sym c.block.ensures ∙ c.if-block.true)
    in
    sym (sym c.loop-left.invariant.answer
    ∙ holds-step p.items.items (slice_index p.next.items) c.loop-left.at c.loop-left.left c.index.result.now
    c.args.block c.loop-left-test.true (omega (arith, fits, long))
    ∙ ap (λ b. b || holds (held_of (placed p.items.items (walk (slice_index p.next.items)
    (slice_index p.next.items c.loop-left.at) (c.loop-left.left - 1)))) c.args.block) here)

pub loop-left-preserved : goal.loop-left-preserved
loop-left-preserved g c =
    let p = c.self.inside in
    let links = c.self.invariant.links in
    let long = c.self.invariant.long in
    let low = c.loop-left.invariant.low in
    let at_is : c.index-at.result.now ≡ slice_index p.next.items c.loop-left.at =
    c.index-at.ensures ∙ ap (λ i. get_or p.next.items i c.index-at.result.now) c.from.ensures
    ∙ get_or_default p.next.items c.loop-left.at c.index-at.result.now 0 (omega (arith, links, low)) in
    let fits = first-below (slice_index p.next.items) c.loop-left.at c.loop-left.left p.end c.loop-left-test.true
    c.loop-left.invariant.below in
    let item : c.index.result.now ≡ get_or p.items.items (slice_index p.next.items c.loop-left.at) c.index.result.now =
    c.index.ensures ∙ ap (λ i. get_or p.items.items i c.index.result.now) (c.from-in-loop-left.ensures ∙ at_is) in
    let here = ne_eqb _ c.args.block (λ e. c.if-block.false (c.block.ensures ∙ ap (λ (h : Held _). h.block) item ∙ e))
    in
    rw at_is (record {
      answer = sym (holds-step p.items.items (slice_index p.next.items) c.loop-left.at c.loop-left.left
          c.index.result.now c.args.block c.loop-left-test.true (omega (arith, fits, long))
          ∙ ap (λ b. b || holds (held_of (placed p.items.items
          (walk (slice_index p.next.items) (slice_index p.next.items c.loop-left.at) (c.loop-left.left - 1))))
          c.args.block) here)
          ∙ c.loop-left.invariant.answer;
      below = rest-below (slice_index p.next.items) c.loop-left.at c.loop-left.left p.end c.loop-left-test.true
          c.loop-left.invariant.below;
      low = omega (arith, fits);
    })
