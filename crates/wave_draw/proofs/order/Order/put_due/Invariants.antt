-- What was drawn and what is due are all that was due.
use Rattle.std.proofs.Common.{◌≡◌, ◌-◌, List, length, string_bytes}
use Rattle.lf_rules.specs.declared.event.Record.{Record}
use Rattle.lf_rules.specs.Run.{Interleaves}
use Rattle.wave_draw.specs.Turns.{queued}
use Rattle.wave_draw.proofs.Turns.{IsOnTheWay}
use Rattle.wave_draw.proofs.order.Order.put_due.Given as goal

abbrev pub invariant-loop-item : goal.invariant-loop-item
invariant-loop-item l = record {
  logs : l.self.logs ≡ l.initial.self.logs;
  place : l.wave.place ≡ l.self.next;
  due : (records : List Record) → Interleaves (queued l.initial.self.waiting) records →
      IsOnTheWay l.times l.initial.self l.self l.initial.wave l.wave
      (string_bytes l.initial.text) (string_bytes l.text) records;
}

abbrev pub decreases-loop-item : goal.decreases-loop-item
decreases-loop-item l = length l.initial.self.logs.items - l.self.next
