use Rattle.std.proofs.Common.{◌≡◌, ◌≤◌, [], length, vec_capacity}
use Rattle.lf_recorder.specs.declared.rule.View.TheVariants.{Collector}
use Rattle.lf_recorder.specs.Desk.{AreNewSeats}
use Rattle.lf_recorder.proofs.desk.new_seats.Given as goal

abbrev pub invariant-loop-log : goal.invariant-loop-log
invariant-loop-log l = record {
  table : l.collector.table_id ≡ l.shared.table_id;
  made : l.collector.me ≡ (Collector l.log [], []);
  count : length l.seats.items ≡ l.log;
  seats : AreNewSeats l.shared.table_id l.seats.items;
  room : l.logs ≤ vec_capacity l.seats;
}
