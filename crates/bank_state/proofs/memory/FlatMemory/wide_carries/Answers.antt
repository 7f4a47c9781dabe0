use Rattle.std.proofs.Common.{◌≡◌, ℕ, None, Some, List, ◌-◌, ◌==◌, length, drop, get_or, sym, ap, ◌∙◌, arith}
use Rattle.std.specs.Prelude.{bytes_eq}
use Rattle.std.specs.List.{flat_map, range_with_len}
use Rattle.lf_rules.specs.declared.mask.Mask.{Mask}
use Rattle.lf_rules.specs.Address.{clean_mask}
use Rattle.bank_state.specs.Bytes.{flat_of}
use Rattle.bank_state.proofs.Masked.{at_end, part_ends, part_masked}
use Rattle.bank_state.proofs.memory.FlatMemory.wide_carries.Goals as goal

pub returns-in-None : goal.returns-in-None
returns-in-None c = sym (c.loop-place.invariant.left
    ∙ part_ends c.args.shape.now (flat_of c.args.self.now) c.args.second c.args.masks.now
    c.deref-in-loop-place.result.now c.args.bytes.now.items c.sub_block-block.result _ c.loop-place.place
    c.loop-place.end None c.in-None.ensures.value c.deref-in-loop-place.ensures.0 c.sub_block-block.ensures
    (ap (λ (ms : List Mask). (get_or ms c.loop-place.place clean_mask).0) c.deref.ensures.0) c.loop-place-test.true)

pub loop-place-preserved : goal.loop-place-preserved
loop-place-preserved c = record {
  within = omega (arith, c.in-Some.ensures.within, ap length c.deref-in-loop-place.ensures.0);
  left =
      c.loop-place.invariant.left
      ∙ part_ends c.args.shape.now (flat_of c.args.self.now) c.args.second c.args.masks.now
      c.deref-in-loop-place.result.now c.args.bytes.now.items c.sub_block-block.result _ c.loop-place.place
      c.loop-place.end (Some c.in-Some.next) c.in-Some.ensures.value c.deref-in-loop-place.ensures.0
      c.sub_block-block.ensures
      (ap (λ (ms : List Mask). (get_or ms c.loop-place.place clean_mask).0) c.deref.ensures.0)
      c.loop-place-test.true;
}

pub returns : goal.returns
returns c =
    let part : ℕ → List ℕ = part_masked c.args.shape.now (flat_of c.args.self.now) c.args.second c.args.masks.now in
    let none : c.args.shape.now.factor - c.loop-place.place ≡ 0 = omega (arith, c.loop-place-test.false) in
    ap (λ n. c.loop-place.end == n) c.len.ensures.value
    ∙ at_end c.args.bytes.now.items c.loop-place.end c.loop-place.invariant.within
    ∙ sym (c.loop-place.invariant.left
    ∙ ap (λ n. bytes_eq (drop c.loop-place.end c.args.bytes.now.items)
    (flat_map part (range_with_len c.loop-place.place n))) none)
