use Rattle.std.proofs.Common.{sym, ◌∙◌, arith}
use Rattle.lf_rules.proofs.Wide.{any_at, none_at}
use Rattle.model_plain.proofs.registers.some_takes.Goals as goal

pub returns-then-takes_block : goal.returns-then-takes_block
returns-then-takes_block g c = any_at _ 0 c.args.registers c.loop-r.r (omega arith)
    (omega (arith, c.loop-r-test.true)) (sym c.takes_block.ensures ∙ c.if-takes_block.true)

pub returns : goal.returns
returns g c = none_at _ 0 c.args.registers (λ i le lt. c.loop-r.invariant i (omega (arith, lt, c.loop-r-test.false)))
