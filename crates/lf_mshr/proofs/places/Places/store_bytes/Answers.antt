use Rattle.std.proofs.Common.{◌≡◌, ℕ, get_or, slice_index, bit_or, sym, ap, ◌∙◌, arith}
use Rattle.std.proofs.lemmas.List.{get_or_default}
use Rattle.lf_rules.specs.Registers.{Held}
use Rattle.lf_mshr.specs.RegisterFile.{store_mask}
use Rattle.lf_mshr.proofs.Chain.{first-below, rest-below, fold-step_own, fold-step_other}
use Rattle.lf_mshr.proofs.places.Places.store_bytes.Goals.{then-block, else-block}
use Rattle.lf_mshr.proofs.places.Places.store_bytes.Goals as goal

pub index-item-requires : goal.index-item-requires
index-item-requires g c =
    let p = c.self.inside in
    let l = c.loop-left in
    let links = c.self.invariant.links in
    let long = c.self.invariant.long in
    let low = l.invariant.low in
    let at_is : c.index-at.result.now ≡ slice_index p.next.items l.at =
    c.index-at.ensures ∙ ap (λ i. get_or p.next.items i c.index-at.result.now) c.from.ensures
    ∙ get_or_default p.next.items l.at c.index-at.result.now 0 (omega (arith, links, low)) in
    let fits = first-below (slice_index p.next.items) l.at l.left p.end c.loop-left-test.true l.invariant.below in
    rw (c.from-in-loop-left.ensures, at_is) (omega (arith, fits, long))

pub loop-left-preserved : goal.loop-left-preserved
loop-left-preserved g c =
    let p = c.self.inside in
    let l = c.loop-left in
    let links = c.self.invariant.links in
    let long = c.self.invariant.long in
    let low = l.invariant.low in
    let at_is : c.index-at.result.now ≡ slice_index p.next.items l.at =
    c.index-at.ensures ∙ ap (λ i. get_or p.next.items i c.index-at.result.now) c.from.ensures
    ∙ get_or_default p.next.items l.at c.index-at.result.now 0 (omega (arith, links, low)) in
    let fits = first-below (slice_index p.next.items) l.at l.left p.end c.loop-left-test.true l.invariant.below in
    let item : c.index-item.result.now ≡ get_or p.items.items (slice_index p.next.items l.at) c.index-item.result.now =
    c.index-item.ensures ∙ ap (λ i. get_or p.items.items i c.index-item.result.now)
    (c.from-in-loop-left.ensures ∙ at_is) in
    let more : ℕ → Held g.row.T.Denot → ℕ = λ mask h. bit_or mask
    (store_mask g.T.Target.is_store g.T.Target.bytes h.target) in
    let below = rest-below (slice_index p.next.items) l.at l.left p.end c.loop-left-test.true l.invariant.below in
    elim c.if-block.branch [
      | then-block w ↦
          let own = ap (λ (h : Held _). h.block) (sym item) ∙ sym c.block.ensures ∙ w.if-block.true in
          let added = w.store_mask-bytes.ensures ∙ ap (store_mask g.T.Target.is_store g.T.Target.bytes)
          (w.target.ensures ∙ ap (λ (h : Held _). h.target) item) in
          rw (w.bytes-is, added, at_is) (record {
            answer = sym (fold-step_own more p.items.items (slice_index p.next.items) l.at l.left
                c.index-item.result.now c.args.block c.loop-left-test.true
                (omega (arith, fits, long)) l.bytes own) ∙ l.invariant.answer;
            below = below;
            low = omega (arith, fits);
          })
      | else-block w ↦
          let other : (get_or p.items.items (slice_index p.next.items l.at) c.index-item.result.now).block
          ≡ c.args.block
          → ⊥ = λ e. w.if-block.false (c.block.ensures ∙ ap (λ (h : Held _). h.block) item ∙ e) in
          rw (w.bytes-is, at_is) (record {
            answer = sym (fold-step_other more p.items.items (slice_index p.next.items) l.at l.left
                c.index-item.result.now c.args.block c.loop-left-test.true
                (omega (arith, fits, long)) l.bytes other) ∙ l.invariant.answer;
            below = below;
            low = omega (arith, fits);
          })
    ]
