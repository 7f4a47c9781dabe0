use Rattle.std.proofs.Common.{refl, arith}
use Rattle.lf_rules.proofs.Wide.{mask_beyond}
use Rattle.lf_rules.proofs.fitting.masks_fit.Goals as goal

pub loop-mask-init : goal.loop-mask-init
loop-mask-init c = λ k lt. absurd (omega (arith, lt))

pub returns : goal.returns
returns c = (
  λ t. mask_beyond c.args.masks.now c.args.size (λ k lt. c.loop-mask.invariant k
      (omega (arith, lt, c.loop-mask-test.false))),
  λ f. refl,
)
