use Rattle.std.proofs.Common.{◌≡◌, ℕ, None, Some, List, ◌+◌, ◌-◌, ◌*◌, ◌<◌, drop, sym, ap, refl, ◌∙◌}
use Rattle.std.proofs.Common.{arith}
use Rattle.std.specs.Prelude.{bytes_eq}
use Rattle.std.specs.List.{flat_map, range_with_len}
use Rattle.bank_state.proofs.Masked.{at_end, part_ends, part_masked}
use Rattle.trace_views.specs.Views.{masks_of}
use Rattle.bank_cells.specs.Cells.{memory_at}
use Rattle.bank_cells.proofs.cells.Cells.wide_carries.Goals as goal

pub end_of_masked-requires-clause-there : goal.end_of_masked-requires-clause-there
end_of_masked-requires-clause-there c =
    let inside : c.loop-part.part < c.args.self.now.factor = omega (arith, c.requires.factor, c.loop-part-test.true) in
    record {
      block = c.requires.there.second * c.args.self.now.factor + c.loop-part.part;
      found = c.first_of-from.ensures.cells c.requires.there.second c.loop-part.part c.requires.there.found inside;
    }

pub returns-in-None : goal.returns-in-None
returns-in-None c = λ second is.
    let inside : c.loop-part.part < c.args.self.now.factor = omega (arith, c.requires.factor, c.loop-part-test.true) in
    sym (c.loop-part.invariant.left second is
    ∙ part_ends c.args.shape.now (memory_at c.args.self.now) second (masks_of c.args.masks.now)
    c.args.bytes.now c.args.bytes.now (second * c.args.self.now.factor + c.loop-part.part) _
    c.loop-part.part c.loop-part.end None
    (c.in-None.ensures.value (second * c.args.self.now.factor + c.loop-part.part)
    (c.first_of-from.ensures.cells second c.loop-part.part is inside)) refl
    (ap (λ f. second * f + c.loop-part.part) c.requires.factor)
    c.get.ensures c.loop-part-test.true)

pub loop-part-preserved : goal.loop-part-preserved
loop-part-preserved c = record {
  within = c.in-Some.ensures.within;
  left = λ second is.
      let inside : c.loop-part.part < c.args.self.now.factor =
      omega (arith, c.requires.factor, c.loop-part-test.true) in
      c.loop-part.invariant.left second is
      ∙ part_ends c.args.shape.now (memory_at c.args.self.now) second (masks_of c.args.masks.now)
      c.args.bytes.now c.args.bytes.now (second * c.args.self.now.factor + c.loop-part.part) _
      c.loop-part.part c.loop-part.end (Some c.in-Some.next)
      (c.in-Some.ensures.value (second * c.args.self.now.factor + c.loop-part.part)
      (c.first_of-from.ensures.cells second c.loop-part.part is inside)) refl
      (ap (λ f. second * f + c.loop-part.part) c.requires.factor)
      c.get.ensures c.loop-part-test.true;
}

pub returns : goal.returns
returns c = λ second is.
    let part : ℕ → List ℕ =
    part_masked c.args.shape.now (memory_at c.args.self.now) second (masks_of c.args.masks.now) in
    let none : c.args.shape.now.factor - c.loop-part.part ≡ 0 = omega (arith, c.loop-part-test.false) in
    at_end c.args.bytes.now c.loop-part.end c.loop-part.invariant.within
    ∙ sym (c.loop-part.invariant.left second is
    ∙ ap (λ n. bytes_eq (drop c.loop-part.end c.args.bytes.now)
    (flat_map part (range_with_len c.loop-part.part n))) none)
