-- What is kept and what is still to take are all records.
use Rattle.std.proofs.Common.{◌≡◌, ◌++◌, List, length}
use Rattle.lf_rules.specs.declared.event.Record.{Record}
use Rattle.wave_order.specs.Left.{HasLeft}
use Rattle.wave_draw.proofs.ordering.keep_records.Given as goal

abbrev pub invariant-loop-item : goal.invariant-loop-item
invariant-loop-item l = record {
  reader : l.reader ≡ record l.initial.reader { records = l.reader.records };
  kept : (gone records : List Record) → HasLeft l.initial.left gone records →
      (all : List Record) × HasLeft l.left gone all ×
      (all ++ l.reader.records ≡ records ++ l.initial.reader.records);
}

abbrev pub decreases-loop-item : goal.decreases-loop-item
decreases-loop-item l = length l.reader.records
