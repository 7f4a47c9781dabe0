use Rattle.std.proofs.Common.{◌≡◌, map, ◌++◌}
use Rattle.std.specs.Vec.Iter.{into_iter_items}
use Rattle.lf_rules.specs.Numbers.{all_records}
use Rattle.lf_rules.specs.Lists.{lists_of}
use Rattle.lf_logs.specs.Lists.{banks_of}
use Rattle.lf_logs.proofs.banks.split_by_bank.Given as goal

abbrev pub invariant-loop-log : goal.invariant-loop-log
invariant-loop-log l = record {
  can_next : (goal.iterator-loop-log).can_next l.log-iterator;
  finite : (goal.iterator-loop-log).is_finite l.log-iterator;
  left : l.yielded ++ into_iter_items l.log-iterator ≡ l.fn.logs.items;
  by_bank : lists_of l.banks ≡ banks_of l.count (all_records (map (λ v. v.items) l.yielded));
}
