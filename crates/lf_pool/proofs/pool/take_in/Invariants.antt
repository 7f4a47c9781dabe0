use Rattle.std.proofs.Common.{◌≡◌, ◌++◌, [], length, map}
use Rattle.std.specs.Prelude.{All}
use Rattle.std.specs.Vec.Iter.{into_iter_items, into_iter_len}
use Rattle.lf_pool.specs.declared.rule.View.TheVariants.{Keeper}
use Rattle.lf_pool.specs.Worked.{IsWorked, entry_of, put_each}
use Rattle.lf_pool.proofs.pool.take_in.Given as goal

abbrev pub invariant-loop-one : goal.invariant-loop-one
invariant-loop-one g l = record {
  rest : l.yielded ++ into_iter_items l.one-iterator ≡ l.fn.worked.items;
  left : into_iter_len l.one-iterator ≡ length (into_iter_items l.one-iterator);
  mine : All (IsWorked g.P.Replays.may_give l.jobs l.shared.table_id) (into_iter_items l.one-iterator);
  table : l.keeper.table_id ≡ l.shared.table_id;
  made : l.keeper.me ≡ (Keeper l.made (map entry_of l.yielded), []);
  placed : l.outcomes.items ≡ put_each l.initial.outcomes.items l.yielded;
}
