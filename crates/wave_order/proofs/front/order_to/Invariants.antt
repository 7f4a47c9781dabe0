-- What the order took of the records, and what is left of them.
use Rattle.std.proofs.Common.{◌≤◌, [], List, length}
use Rattle.lf_rules.specs.declared.event.Record.{Record}
use Rattle.wave_order.specs.Left.{queued, count_left, HasLeft}
use Rattle.wave_order.proofs.Going.{Going}
use Rattle.wave_order.proofs.front.order_to.Given as goal

abbrev pub invariant-loop-entry : goal.invariant-loop-entry
invariant-loop-entry l = record {
  few : l.before ≤ length l.logs.items;
  going : (records : List Record) → HasLeft l.fn.left [] records →
      Going l.times l.sought l.left l.logs.items l.before records;
}

abbrev pub decreases-loop-entry : goal.decreases-loop-entry
decreases-loop-entry l = count_left (queued l.left)
