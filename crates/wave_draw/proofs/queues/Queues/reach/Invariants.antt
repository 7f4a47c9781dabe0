-- There are only more logs, which have no record.
use Rattle.std.proofs.Common.{List, ◌+◌, ◌-◌, length}
use Rattle.lf_rules.specs.declared.event.Record.{Record}
use Rattle.lf_rules.specs.Run.{Interleaves}
use Rattle.wave_draw.specs.Turns.{queued}
use Rattle.wave_draw.proofs.queues.Queues.reach.Given as goal

abbrev pub invariant-loop-self : goal.invariant-loop-self
invariant-loop-self l =
    (records : List Record) → Interleaves (queued l.initial.self) records → Interleaves (queued l.self) records

abbrev pub decreases-loop-self : goal.decreases-loop-self
decreases-loop-self l = l.log + 1 - length l.self.logs.items
