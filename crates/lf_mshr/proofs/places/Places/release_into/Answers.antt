use Rattle.std.proofs.Common.{◌≡◌, ◌≤◌, ◌⊎◌, inl, inr, ◌&&◌, ◌==◌, not, ℕ, List, ◌++◌, ◌∷◌, [], length}
use Rattle.std.proofs.Common.{get_or, slice_index, Vec, Global}
use Rattle.std.proofs.Common.{refl, sym, ap, ◌∙◌, subst, arith}
use Rattle.std.proofs.lemmas.List.{get_or_default, with_items_is}
use Rattle.lf_rules.specs.Registers.{Held}
use Rattle.lf_mshr.specs.Places.{is_marked}
use Rattle.lf_mshr.specs.RegisterFile.{released_pair}
use Rattle.lf_mshr.proofs.Chain.{last-fits}
use Rattle.lf_mshr.proofs.Release.{releasing-start, releasing-drop, releasing-keep, come-lt, none-behind}
use Rattle.lf_mshr.proofs.Release.{released-targets, closed, ended}
use Rattle.lf_mshr.proofs.places.Places.release_into.Goals.{then-item-block, else-item-block}
use Rattle.lf_mshr.proofs.places.Places.release_into.Goals.{then-loop-left-test+else-len-most, else-loop-left-test}
use Rattle.lf_mshr.proofs.places.Places.release_into.Goals.{then-left-gt0, else-left-gt0}
use Rattle.lf_mshr.proofs.places.Places.release_into.Goals as goal

pub loop-left-init : goal.loop-left-init
loop-left-init g c =
    let p = c.self.inside in
    record {
      releasing = rw c.clear.ensures (releasing-start p.items.items p.next.items p.used.items p.end p.last p.len
          c.args.block c.self.invariant);
      items = refl;
      end = refl;
      ends = refl;
    }

pub index-item-requires : goal.index-item-requires
index-item-requires g c =
    let was = c.self.inside in
    let l = c.loop-left in
    let next = l.self-inside.next.items in
    let used = l.self-inside.used.items in
    let links = l.invariant.releasing.parted.links in
    let low = l.invariant.releasing.low in
    let long = c.self.invariant.long in
    let at_is : c.index-at.result.now ≡ slice_index next l.at =
    c.index-at.ensures ∙ ap (λ i. get_or next i c.index-at.result.now) c.from.ensures
    ∙ get_or_default next l.at c.index-at.result.now 0 (omega (arith, links, low)) in
    let lt = come-lt was.items.items was.next.items was.len
    (length was.used.items) c.args.block next used l.targets was.end l.last l.kept l.at l.left
    l.invariant.releasing long c.loop-left-test.true in
    rw (c.from-in-loop-left.ensures, at_is, l.invariant.items) (omega (arith, lt, long))

pub unmark-requires : goal.unmark-requires
unmark-requires g c =
    let was = c.self.inside in
    let l = c.loop-left in
    let next = l.self-inside.next.items in
    let used = l.self-inside.used.items in
    let links = l.invariant.releasing.parted.links in
    let low = l.invariant.releasing.low in
    let long = c.self.invariant.long in
    let at_is : c.index-at.result.now ≡ slice_index next l.at =
    c.index-at.ensures ∙ ap (λ i. get_or next i c.index-at.result.now) c.from.ensures
    ∙ get_or_default next l.at c.index-at.result.now 0 (omega (arith, links, low)) in
    let lt = come-lt was.items.items was.next.items was.len
    (length was.used.items) c.args.block next used l.targets was.end l.last l.kept l.at l.left
    l.invariant.releasing long c.loop-left-test.true in
    let size : length c.deref_mut.result.now ≡ length was.used.items =
    ap (λ (ws : List ℕ). length ws) c.deref_mut.ensures.value ∙ l.invariant.releasing.parted.words in
    let wide = c.self.invariant.words in
    rw at_is (omega (arith, lt, size, wide))

pub index_mut-requires : goal.index_mut-requires
index_mut-requires g c =
    let was = c.self.inside in
    let l = c.loop-left in
    let links = l.invariant.releasing.parted.links in
    let fits = last-fits (length was.used.items) l.self-inside.next.items l.self-inside.used.items was.end l.last
    l.kept l.at l.left l.invariant.releasing.parted in
    rw c.from-else-item-block.ensures (omega (arith, links, fits))

pub loop-left-preserved : goal.loop-left-preserved
loop-left-preserved g c =
    let was = c.self.inside in
    let l = c.loop-left in
    let next = l.self-inside.next.items in
    let used = l.self-inside.used.items in
    let links = l.invariant.releasing.parted.links in
    let low = l.invariant.releasing.low in
    let long = c.self.invariant.long in
    let at_is : c.index-at.result.now ≡ slice_index next l.at =
    c.index-at.ensures ∙ ap (λ i. get_or next i c.index-at.result.now) c.from.ensures
    ∙ get_or_default next l.at c.index-at.result.now 0 (omega (arith, links, low)) in
    let item : c.index-item.result.now ≡ get_or was.items.items (slice_index next l.at) c.index-item.result.now =
    c.index-item.ensures ∙ ap (λ i. get_or l.self-inside.items.items i c.index-item.result.now)
    (c.from-in-loop-left.ensures ∙ at_is)
    ∙ ap (λ (v : Vec _ Global). get_or v.items (slice_index next l.at) c.index-item.result.now) l.invariant.items in
    let seen = c.item.view_is ∙ item in
    elim c.if-item-block.branch [
      | then-item-block w ↦
          let value : w.deref_mut.result.now ≡ used = w.deref_mut.ensures.value in
          let size : length w.unmark.new.words ≡ length used =
          w.unmark.ensures.long ∙ ap (λ (ws : List ℕ). length ws) value in
          let bits = subst (λ k. (b : ℕ) → is_marked w.unmark.new.words b ≡ (not (b == k) && is_marked used b)) at_is
          (subst (λ (ws : List ℕ). (b : ℕ) → is_marked w.unmark.new.words b
          ≡ (not (b == c.index-at.result.now) && is_marked ws b)) value w.unmark.ensures.bits) in
          let pushed = w.push.ensures ∙ ap (λ h. l.targets ++ released_pair h ∷ []) seen in
          let same = sym (ap (λ (h : Held _). h.block) seen) ∙ w.if-item-block.true in
          rw (w.targets-is, w.kept-is, w.last-is, w.self-inside-is) (record {
            releasing = rw (
              with_items_is l.self-inside.used w.unmark.new.words (size ∙ sym l.self-inside.used.ok.0),
              pushed,
              at_is,
            )
                (releasing-drop was.items.items was.next.items was.len
                (length was.used.items) c.args.block next used l.targets was.end l.last l.kept l.at l.left
                l.invariant.releasing long c.loop-left-test.true
                c.index-item.result.now same w.unmark.new.words size bits);
            items = l.invariant.items;
            end = l.invariant.end;
            ends = l.invariant.ends;
          })
      | else-item-block w ↦
          let other : (get_or was.items.items (slice_index next l.at) c.index-item.result.now).block ≡ c.args.block →
          ⊥ = λ e. w.if-item-block.false (ap (λ (h : Held _). h.block) seen ∙ e) in
          rw (w.targets-is, w.kept-is, w.last-is, w.self-inside-is) (record {
            releasing = rw (w.from-else-item-block.ensures, at_is)
                (releasing-keep was.items.items was.next.items was.len
                (length was.used.items) c.args.block next used l.targets was.end l.last l.kept l.at l.left
                l.invariant.releasing long c.loop-left-test.true
                c.index-item.result.now other);
            items = l.invariant.items;
            end = l.invariant.end;
            ends = l.invariant.ends;
          })
    ]

pub index_mut-requires-then-left-gt0 : goal.index_mut-requires-then-left-gt0
index_mut-requires-then-left-gt0 g c =
    let was = c.self.inside in
    let l = c.loop-left in
    let links = l.invariant.releasing.parted.links in
    let fits = last-fits (length was.used.items) l.self-inside.next.items l.self-inside.used.items was.end l.last
    l.kept l.at l.left l.invariant.releasing.parted in
    rw c.from-then-left-gt0-2.ensures (omega (arith, links, fits))

pub returns-clause-order : goal.returns-clause-order
returns-clause-order g c =
    let was = c.self.inside in
    let l = c.loop-left in
    let links = l.invariant.releasing.parted.links in
    let low = l.invariant.releasing.low in
    let done : (l.left ≡ 0) ⊎ (c.args.most ≤ length l.targets) = elim c.loop-left-test.branch [
      | then-loop-left-test+else-len-most w ↦ inr (let long = w.len.ensures in omega (arith, long, w.if-len-most.false))
      | else-loop-left-test w ↦ inl (omega (arith, w.loop-left-test.false))
    ] in
    let most = rw (← c.self.view_is) at c.requires in
    let none = none-behind was.items.items was.next.items was.len (length was.used.items) c.args.block
    l.self-inside.next.items l.self-inside.used.items l.targets was.end l.last l.kept l.at l.left
    l.invariant.releasing c.self.invariant.long c.args.most most done in
    elim c.if-left-gt0.branch [
      | then-left-gt0 w ↦
          let link = w.index.ensures ∙ ap (λ i. get_or l.self-inside.next.items i w.index.result.now)
          w.from-then-left-gt0.ensures
          ∙ get_or_default l.self-inside.next.items l.at w.index.result.now 0 (omega (arith, links, low)) in
          rw (
            w.self-inside-is,
            w.from-then-left-gt0-2.ensures,
            link,
            l.invariant.items,
            l.invariant.end,
            ← c.self.view_is,
          )
          (sym (closed was.items.items was.next.items was.len (length was.used.items) c.args.block
          l.self-inside.next.items l.self-inside.used.items l.targets was.end l.last l.kept l.at l.left
          l.invariant.releasing c.self.invariant.long none
          w.if-left-gt0.true c.self.invariant.few c.self.invariant.words).1)
      | else-left-gt0 w ↦
          rw (w.self-inside-is, l.invariant.items, l.invariant.end, ← c.self.view_is)
          (sym (ended was.items.items was.next.items was.len (length was.used.items) c.args.block
          l.self-inside.next.items l.self-inside.used.items l.targets was.end l.last l.kept l.at l.left
          l.invariant.releasing c.self.invariant.long none
          (omega (arith, w.if-left-gt0.false)) c.self.invariant.few c.self.invariant.words).1)
    ]

pub returns-clause-targets : goal.returns-clause-targets
returns-clause-targets g c =
    let was = c.self.inside in
    let l = c.loop-left in
    let done : (l.left ≡ 0) ⊎ (c.args.most ≤ length l.targets) = elim c.loop-left-test.branch [
      | then-loop-left-test+else-len-most w ↦ inr (let long = w.len.ensures in omega (arith, long, w.if-len-most.false))
      | else-loop-left-test w ↦ inl (omega (arith, w.loop-left-test.false))
    ] in
    let most = rw (← c.self.view_is) at c.requires in
    let none = none-behind was.items.items was.next.items was.len (length was.used.items) c.args.block
    l.self-inside.next.items l.self-inside.used.items l.targets was.end l.last l.kept l.at l.left
    l.invariant.releasing c.self.invariant.long c.args.most most done in
    rw (← c.self.view_is)
    (sym (released-targets was.items.items was.next.items was.len (length was.used.items) c.args.block
    l.self-inside.next.items l.self-inside.used.items l.targets was.end l.last l.kept l.at l.left
    l.invariant.releasing c.self.invariant.long none))

pub invariant_of-self : goal.invariant_of-self
invariant_of-self g c =
    let was = c.self.inside in
    let l = c.loop-left in
    let links = l.invariant.releasing.parted.links in
    let low = l.invariant.releasing.low in
    let done : (l.left ≡ 0) ⊎ (c.args.most ≤ length l.targets) = elim c.loop-left-test.branch [
      | then-loop-left-test+else-len-most w ↦ inr (let long = w.len.ensures in omega (arith, long, w.if-len-most.false))
      | else-loop-left-test w ↦ inl (omega (arith, w.loop-left-test.false))
    ] in
    let most = rw (← c.self.view_is) at c.requires in
    let none = none-behind was.items.items was.next.items was.len (length was.used.items) c.args.block
    l.self-inside.next.items l.self-inside.used.items l.targets was.end l.last l.kept l.at l.left
    l.invariant.releasing c.self.invariant.long c.args.most most done in
    elim c.if-left-gt0.branch [
      | then-left-gt0 w ↦
          let link = w.index.ensures ∙ ap (λ i. get_or l.self-inside.next.items i w.index.result.now)
          w.from-then-left-gt0.ensures
          ∙ get_or_default l.self-inside.next.items l.at w.index.result.now 0 (omega (arith, links, low)) in
          rw (
            w.self-inside-is,
            w.from-then-left-gt0-2.ensures,
            link,
            l.invariant.items,
            l.invariant.end,
            l.invariant.ends,
            ← c.self.invariant.ends,
          )
          ((closed was.items.items was.next.items was.len (length was.used.items) c.args.block
          l.self-inside.next.items l.self-inside.used.items l.targets was.end l.last l.kept l.at l.left
          l.invariant.releasing c.self.invariant.long none
          w.if-left-gt0.true c.self.invariant.few c.self.invariant.words).0)
      | else-left-gt0 w ↦
          rw (w.self-inside-is, l.invariant.items, l.invariant.end)
          ((ended was.items.items was.next.items was.len (length was.used.items) c.args.block
          l.self-inside.next.items l.self-inside.used.items l.targets was.end l.last l.kept l.at l.left
          l.invariant.releasing c.self.invariant.long none
          (omega (arith, w.if-left-gt0.false)) c.self.invariant.few c.self.invariant.words).0)
    ]
