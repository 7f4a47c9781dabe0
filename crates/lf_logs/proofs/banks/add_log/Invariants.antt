use Rattle.std.proofs.Common.{◌≡◌, ℕ, List, length, ◌++◌}
use Rattle.std.specs.Vec.Iter.{into_iter_items}
use Rattle.lf_rules.specs.declared.event.Record.{Record}
use Rattle.lf_rules.specs.Lists.{lists_of}
use Rattle.lf_logs.specs.Lists.{banks_of}
use Rattle.lf_logs.proofs.banks.add_log.Given as goal

abbrev pub invariant-loop-item : goal.invariant-loop-item
invariant-loop-item l = record {
  can_next : (goal.iterator-loop-item).can_next l.item-iterator;
  finite : (goal.iterator-loop-item).is_finite l.item-iterator;
  left : l.yielded ++ into_iter_items l.item-iterator ≡ l.fn.log.items;
  len : length l.banks.items ≡ length l.fn.banks.items;
  placed : (count : ℕ) (seen : List Record) → lists_of l.fn.banks ≡ banks_of count seen →
      lists_of l.banks ≡ banks_of count (seen ++ l.yielded);
}
