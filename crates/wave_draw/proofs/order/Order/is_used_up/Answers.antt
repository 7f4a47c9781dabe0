use Rattle.std.proofs.Common.{eqb-true, arith}
use Rattle.wave_draw.proofs.Turns.{used_up, not_used_up}
use Rattle.wave_draw.proofs.order.Order.is_used_up.Goals as goal

pub returns-then-self-len : goal.returns-then-self-len
returns-then-self-len c records come =
    used_up c.args.self.now records come c.is_empty.result (omega (arith, c.len.ensures)) c.is_empty.ensures

pub returns-else-self-len : goal.returns-else-self-len
returns-else-self-len c records come =
    let not = not_used_up c.args.self.now records come
    (λ same. c.if-self-len.false (omega (arith, c.len.ensures))) in (
      λ is. absurd (c.if-self-len.false (eqb-true c.args.self.now.next c.len.result is)),
      λ names. absurd (not names),
    )
