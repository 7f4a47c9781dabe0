use Rattle.std.proofs.Common.{ℕ, List, ◌++◌, drop, arith, ap, ◌∙◌, slice_index}
use Rattle.std.specs.Prelude.{bytes_eq}
use Rattle.bank_state.proofs.Masked.{first_below, first_same, next_end, other_byte, no_byte, below_rest, none_left}
use Rattle.bank_state.proofs.memory.end_of_masked.Goals as goal
use Rattle.bank_state.proofs.memory.end_of_masked.Goals.{then-at-bytes-via-then-at-bytes}
use Rattle.bank_state.proofs.memory.end_of_masked.Goals.{then-at-bytes-via-else-at-bytes+then-bytes-at}

pub loop-rest-init : goal.loop-rest-init
loop-rest-init c = record {
  within = c.requires.within;
  below = first_below c.args.mask.0 c.of.result.0 c.args.size c.of.ensures.bits;
  left = λ more. ap (λ (xs : List ℕ). bytes_eq (drop c.args.from c.args.bytes.now) (xs ++ more))
      (first_same c.args.mask.0 c.of.result.0 c.args.size c.of.ensures.bits (slice_index c.args.stored.now));
}

pub returns-then-at-bytes-clause-value : goal.returns-then-at-bytes-clause-value
returns-then-at-bytes-clause-value c = elim c.then-at-bytes.branch [
  | then-at-bytes-via-then-at-bytes w ↦ λ more. c.loop-rest.invariant.left more
      ∙ no_byte (slice_index c.args.stored.now) c.args.size c.loop-rest.rest c.loop-rest-test.true
      c.loop-rest.auto.rest-fits.fits c.loop-rest.invariant.below c.args.bytes.now c.loop-rest.at more
      w.if-at-bytes.true
  | then-at-bytes-via-else-at-bytes+then-bytes-at w ↦ λ more. c.loop-rest.invariant.left more
      ∙ other_byte (slice_index c.args.stored.now) c.args.size c.loop-rest.rest c.loop-rest-test.true
      c.loop-rest.auto.rest-fits.fits c.loop-rest.invariant.below c.args.bytes.now c.loop-rest.at more
      (omega (arith, w.if-at-bytes.false, c.loop-rest.invariant.within)) w.if-bytes-at.true
]

pub loop-rest-preserved : goal.loop-rest-preserved
loop-rest-preserved c = record {
  within = omega (arith, c.if-at-bytes.false, c.loop-rest.invariant.within);
  below = below_rest c.loop-rest.rest c.args.size c.loop-rest.invariant.below;
  left = λ more. c.loop-rest.invariant.left more
      ∙ next_end (slice_index c.args.stored.now) c.args.size c.loop-rest.rest c.loop-rest-test.true
      c.loop-rest.auto.rest-fits.fits c.loop-rest.invariant.below c.args.bytes.now c.loop-rest.at more
      (omega (arith, c.if-at-bytes.false, c.loop-rest.invariant.within)) c.if-bytes-at.false;
}

pub returns-clause-value : goal.returns-clause-value
returns-clause-value c = λ more. c.loop-rest.invariant.left more
    ∙ ap (λ (xs : List ℕ). bytes_eq (drop c.loop-rest.at c.args.bytes.now) (xs ++ more))
    (none_left (slice_index c.args.stored.now) c.args.size c.loop-rest.rest c.loop-rest-test.false)
