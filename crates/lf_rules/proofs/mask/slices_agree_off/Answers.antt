use Rattle.std.proofs.Common.{◌≤◌, length, sym, ◌∙◌, arith}
use Rattle.lf_rules.proofs.MaskBits.{agree_if_each, differ_if_one}
use Rattle.lf_rules.proofs.mask.slices_agree_off.Goals as goal

pub returns-then-x-b : goal.returns-then-x-b
returns-then-x-b c =
    sym (differ_if_one c.args.a.now c.args.b.now c.args.mask.0 (length c.args.a.now) c.loop-i.i (omega arith)
    (sym c.has.ensures ∙ c.if-not-has.true) c.if-x-b.true)

pub returns : goal.returns
returns c =
    let all : length c.args.a.now ≤ c.loop-i.i = omega arith in
    sym (agree_if_each c.args.a.now c.args.b.now c.args.mask.0 (length c.args.a.now)
    (λ k lt. c.loop-i.invariant k (omega arith)))
