use Rattle.std.proofs.Common.{[], arith}
use Rattle.log_tests.proofs.orders.nothing_is_left.Goals as goal

pub finish-requires-clause-reached : goal.finish-requires-clause-reached
finish-requires-clause-reached g c = (
  [],
  record {
    whole = λ bank lt k below. absurd (omega arith);
    short = λ log d lt. absurd (omega arith);
  },
  c.new-progress.ensures 0,
)
