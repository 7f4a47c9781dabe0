use Rattle.std.proofs.Common.{◌∙◌, arith}
use Rattle.count_usage.proofs.Bounds.{held_le, lines_le, targets_le}
use Rattle.count_usage.proofs.tally.Tally.make.Goals as goal

pub overflow_add-self : goal.overflow_add-self
overflow_add-self c =
    let before = c.requires.few.0 in
    omega (arith, c.requires.few.1.held, held_le before, c.requires.few.2)

pub overflow_add-used : goal.overflow_add-used
overflow_add-used c =
    let before = c.requires.few.0 in
    omega (
      arith,
      c.of.ensures ∙ c.requires.few.1.targets c.in-Joined.register,
      targets_le c.in-Joined.register
          before,
      c.requires.few.2,
    )

pub overflow_add-used-in-Filled : goal.overflow_add-used-in-Filled
overflow_add-used-in-Filled c =
    let before = c.requires.few.0 in
    omega (
      arith,
      c.of-in-Filled.ensures ∙ c.requires.few.1.lines c.in-Filled.set,
      lines_le c.in-Filled.set before,
      c.requires.few.2,
    )
