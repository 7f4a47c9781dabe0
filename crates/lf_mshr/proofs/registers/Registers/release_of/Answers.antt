use Rattle.std.proofs.Common.{◌≡◌, ◌==◌, not, slice_index, get_or, ap, ◌∙◌, arith}
use Rattle.std.proofs.lemmas.List.{get_or_default}
use Rattle.lf_rules.specs.Registers.{released}
use Rattle.lf_mshr.specs.Places.{held_of}
use Rattle.lf_mshr.proofs.Fields.{IsBelow-filter}
use Rattle.lf_mshr.proofs.Indexed.{IsIndexed-released, IsCounted-released, counted-found}
use Rattle.lf_mshr.proofs.Once.{HoldsOnce-released}
use Rattle.lf_mshr.proofs.Placed.{held-left}
use Rattle.lf_mshr.proofs.Stored.{IsStored-released}
use Rattle.lf_mshr.proofs.registers.Registers.release_of.Goals as goal

pub invariant_of-self : goal.invariant_of-self
invariant_of-self g c =
    let file = c.args.self.now in
    let held = held_of file.places.order in
    let at = c.args.register in
    let block = c.args.block in
    let there = c.requires.exists in
    let has = c.requires.holding in
    let same : held_of c.release_into.new.self.order ≡ released held block =
    ap held_of c.release_into.ensures.order ∙ held-left file.places.order block in
    record {
      index = rw same (IsIndexed-released file.registers file.used file.blocks.items held file.index at block
          there has file.once);
      counted = rw (same, c.from-2.ensures) (IsCounted-released file.registers file.used file.blocks.items held
          file.index at block there has file.once file.counts.items file.counted);
      stored = rw (same, c.from-3.ensures) (IsStored-released g.T.Target.is_store g.T.Target.bytes file.registers
          file.stores.items held file.stored file.used file.blocks.items file.index at block there has file.once);
      below = rw same (IsBelow-filter file.registers held file.below (λ h. not (h.block == block)));
      once = rw same (HoldsOnce-released held block file.once);
    }

pub release_into-requires : goal.release_into-requires
release_into-requires g c =
    let file = c.args.self.now in
    let held = held_of file.places.order in
    let at = c.args.register in
    let there = c.requires.exists in
    let long = file.counted.long in
    let count : c.index-count.result.now ≡ slice_index file.counts.items at =
    c.index-count.ensures ∙ ap (λ i. get_or file.counts.items i c.index-count.result.now) c.from.ensures
    ∙ get_or_default file.counts.items at c.index-count.result.now 0 (omega (arith, there, long)) in
    let all = counted-found file.registers file.used file.blocks.items held file.index at
    c.args.block there c.requires.holding file.once file.counts.items file.counted in
    omega (arith, count, all)
