use Rattle.std.proofs.Common.{◌≡◌, ℕ, List, ◌==◌, ◌++◌, ◌∷◌, [], length, get_or, slice_index, ap, ◌∙◌, arith}
use Rattle.std.proofs.lemmas.List.{get_or_default, length-map, length_push}
use Rattle.std.proofs.lemmas.List.Sums.{count_by-le-length}
use Rattle.lf_rules.specs.Registers.{Held}
use Rattle.lf_mshr.specs.Places.{held_of}
use Rattle.lf_mshr.specs.RegisterFile.{held_item}
use Rattle.lf_mshr.proofs.Fields.{IsBelow-push}
use Rattle.lf_mshr.proofs.Indexed.{IsIndexed-push, IsCounted-push}
use Rattle.lf_mshr.proofs.Once.{HoldsOnce-push}
use Rattle.lf_mshr.proofs.Placed.{held-push}
use Rattle.lf_mshr.proofs.Stored.{IsStored-push}
use Rattle.lf_mshr.proofs.registers.Registers.push.Goals as goal

pub invariant_of-self : goal.invariant_of-self
invariant_of-self g c =
    let file = c.args.self.now in
    let item = held_item c.args.register c.args.block c.args.target in
    let held = held_of file.places.order in
    let same : held_of c.push.new.self.order ≡ held ++ item ∷ [] =
    ap held_of c.push.ensures.order ∙ held-push file.places.order (c.args.place, item) in
    let stores = file.stores.items in
    let long = file.stored.long in
    let before : c.index_mut-3.result.now ≡ slice_index stores c.args.register =
    c.index_mut-3.ensures.value ∙ ap (λ i. get_or stores i c.index_mut-3.result.now) c.from-3.ensures
    ∙ get_or_default stores c.args.register c.index_mut-3.result.now 0 (omega (arith, long, c.requires.exists)) in
    let counts = file.counts.items in
    let many = file.counted.long in
    let count : c.index_mut-2.result.now ≡ slice_index counts c.args.register =
    c.index_mut-2.ensures.value ∙ ap (λ i. get_or counts i c.index_mut-2.result.now) c.from-2.ensures
    ∙ get_or_default counts c.args.register c.index_mut-2.result.now 0 (omega (arith, many, c.requires.exists)) in
    record {
      index = rw (same, c.from.ensures) (IsIndexed-push file.registers file.used file.blocks.items held file.index
          item c.requires.exists c.requires.own);
      counted = rw (same, c.from-2.ensures, count) (IsCounted-push file.registers counts held file.counted item
          c.requires.exists);
      stored = rw (same, c.from-3.ensures, before, c.store_mask-written.ensures)
          (IsStored-push g.T.Target.is_store g.T.Target.bytes file.registers stores held file.stored item
          c.requires.exists);
      below = rw same (IsBelow-push file.registers held file.below item c.requires.exists);
      once = rw same (HoldsOnce-push held item c.requires.apart file.once);
    }

pub overflow_add-index_mut : goal.overflow_add-index_mut
overflow_add-index_mut g c =
    let file = c.args.self.now in
    let held = held_of file.places.order in
    let counts = file.counts.items in
    let many = file.counted.long in
    let count : c.index_mut-2.result.now ≡ slice_index counts c.args.register =
    c.index_mut-2.ensures.value ∙ ap (λ i. get_or counts i c.index_mut-2.result.now) c.from-2.ensures
    ∙ get_or_default counts c.args.register c.index_mut-2.result.now 0 (omega (arith, many, c.requires.exists)) in
    let counted = file.counted.counted c.args.register c.requires.exists in
    let most = count_by-le-length (λ h. h.register == c.args.register) held in
    let all = length-map file.places.order (λ q. q.1) in
    let one = held_item c.args.register c.args.block c.args.target in
    let grown = ap (λ (qs : List (ℕ × Held _)). length qs) c.push.ensures.order
    ∙ length_push file.places.order (c.args.place, one) in
    let few = c.push.ensures.few in
    omega (arith, count, counted, most, all, grown, few)
