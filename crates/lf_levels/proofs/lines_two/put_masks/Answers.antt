use Rattle.std.proofs.Common.{arith, ap}
use Rattle.lf_levels.proofs.WayWords.{masks_put}
use Rattle.lf_levels.proofs.lines_two.put_masks.Goals as goal

pub returns-clause-value : goal.returns-clause-value
returns-clause-value c = let l = c.loop-i in
    ap (λ ms. record { items = ms }) (masks_put l.words c.args.masks.now.items l.invariant.count
    (λ k lt. l.invariant.before k (omega (arith, lt, l.auto.words, c.loop-i-test.false))))
