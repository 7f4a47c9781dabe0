use Rattle.std.proofs.Common.{◌≡◌, ◌++◌, [], length, map}
use Rattle.std.specs.Prelude.{All}
use Rattle.std.specs.Vec.Iter.{into_iter_items, into_iter_len}
use Rattle.lf_recorder.specs.declared.rule.View.TheVariants.{Collector}
use Rattle.lf_recorder.specs.Desk.{SeatView, entry_of, placed}
use Rattle.lf_recorder.proofs.desk.gather.Given as goal

abbrev pub invariant-loop-seat : goal.invariant-loop-seat
invariant-loop-seat l = record {
  rest : l.yielded ++ into_iter_items l.seat-iterator ≡ l.fn.seats.items;
  left : into_iter_len l.seat-iterator ≡ length (into_iter_items l.seat-iterator);
  mine : All (λ (s : SeatView). s.desk ≡ l.shared.table_id) (into_iter_items l.seat-iterator);
  table : l.collector.table_id ≡ l.shared.table_id;
  made : l.collector.me ≡ (Collector l.made (map entry_of l.yielded), []);
  logs : map (λ log. log.items) l.logs.items ≡ placed (map (λ log. log.items) l.initial.logs.items) l.yielded;
}
