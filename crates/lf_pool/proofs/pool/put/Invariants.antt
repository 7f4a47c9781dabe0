use Rattle.std.proofs.Common.{◌≡◌, ◌++◌, length}
use Rattle.std.specs.Vec.Iter.{into_iter_items, into_iter_len}
use Rattle.lf_pool.specs.Worked.{put_all}
use Rattle.lf_pool.proofs.pool.put.Given as goal

abbrev pub invariant-loop-number : goal.invariant-loop-number
invariant-loop-number l = record {
  rest : l.yielded ++ into_iter_items l.number-iterator ≡ l.fn.done.items;
  left : into_iter_len l.number-iterator ≡ length (into_iter_items l.number-iterator);
  placed : l.outcomes.items ≡ put_all l.initial.outcomes.items l.yielded;
}
