use Rattle.std.proofs.Common.{arith, ◌≤◌, ◌^◌}
use Rattle.std.proofs.Math.Pow.{pow_mono}
use Rattle.std.proofs.lemmas.Bool.Decides.{nat_tests}
use Rattle.lf_rules.proofs.fitting.mask_fits.Goals as goal

pub returns-then-size-ge64 : goal.returns-then-size-ge64
returns-then-size-ge64 c =
    let wide : 2 ^ 64 ≤ 2 ^ c.args.size = pow_mono c.if-size-ge64.true in
    grind (arith, nat_tests)
