use Rattle.std.proofs.Common.{◌≡◌, ◌+◌, ◌++◌}
use Rattle.std.specs.Vec.Iter.{into_iter_items}
use Rattle.lf_rules.specs.Lists.{lists_of}
use Rattle.lf_logs.specs.Lists.{logs_of}
use Rattle.lf_logs.proofs.logs.split.Given as goal

abbrev pub invariant-loop-item : goal.invariant-loop-item
invariant-loop-item l = record {
  can_next : (goal.iterator-loop-item).can_next l.item-iterator;
  finite : (goal.iterator-loop-item).is_finite l.item-iterator;
  placed : lists_of l.logs ≡ logs_of (l.ports + l.banks) l.yielded;
  left : l.yielded ++ into_iter_items l.item-iterator ≡ l.fn.records.items;
}
