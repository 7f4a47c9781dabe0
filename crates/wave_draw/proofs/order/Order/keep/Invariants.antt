-- What is kept and what is still to take are what waited and all records.
use Rattle.std.proofs.Common.{◌≡◌, ◌++◌, List, length}
use Rattle.lf_rules.specs.declared.event.Record.{Record}
use Rattle.lf_rules.specs.Run.{Interleaves}
use Rattle.wave_draw.specs.Turns.{queued}
use Rattle.wave_draw.proofs.order.Order.keep.Given as goal

abbrev pub invariant-loop-item : goal.invariant-loop-item
invariant-loop-item l = record {
  reader : l.reader ≡ record l.initial.reader { records = l.reader.records };
  order : l.self ≡ record l.initial.self { waiting = l.self.waiting };
  kept : (records : List Record) → Interleaves (queued l.initial.self.waiting) records →
      (all : List Record) × Interleaves (queued l.self.waiting) all ×
      (all ++ l.reader.records ≡ records ++ l.initial.reader.records);
}

abbrev pub decreases-loop-item : goal.decreases-loop-item
decreases-loop-item l = length l.reader.records
