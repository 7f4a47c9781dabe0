use Rattle.std.proofs.Common.{◌≡◌, map, ◌++◌}
use Rattle.std.specs.Vec.Iter.{into_iter_items}
use Rattle.lf_rules.specs.Numbers.{all_records}
use Rattle.lf_logs.proofs.logs.records.Given as goal

abbrev pub invariant-loop-log : goal.invariant-loop-log
invariant-loop-log l = record {
  can_next : (goal.iterator-loop-log).can_next l.log-iterator;
  finite : (goal.iterator-loop-log).is_finite l.log-iterator;
  left : l.yielded ++ into_iter_items l.log-iterator ≡ l.fn.logs.items;
  log_after_log : l.records.items ≡ all_records (map (λ v. v.items) l.yielded);
}
