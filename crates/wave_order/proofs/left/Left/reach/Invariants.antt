-- There are only more logs, which have no record.
use Rattle.std.proofs.Common.{List, ◌+◌, ◌-◌, length}
use Rattle.lf_rules.specs.declared.event.Record.{Record}
use Rattle.wave_order.specs.Left.{HasLeft}
use Rattle.wave_order.proofs.left.Left.reach.Given as goal

abbrev pub invariant-loop-self : goal.invariant-loop-self
invariant-loop-self l =
    (gone records : List Record) → HasLeft l.initial.self gone records → HasLeft l.self gone records

abbrev pub decreases-loop-self : goal.decreases-loop-self
decreases-loop-self l = l.log + 1 - length l.self.logs.items
