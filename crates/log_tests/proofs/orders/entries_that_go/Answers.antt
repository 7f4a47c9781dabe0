use Rattle.std.proofs.Common.{arith}
use Rattle.log_tests.proofs.orders.entries_that_go.Goals as goal

pub pass-requires-clause-short : goal.pass-requires-clause-short
pass-requires-clause-short g c = let none = (c.new-progress.ensures 0).counted 1 in omega (arith, none)

pub pass-requires-2-clause-short : goal.pass-requires-2-clause-short
pass-requires-2-clause-short g c = let none = (c.new-progress-2.ensures 0).counted 0 in omega (arith, none)

pub pass-requires-3-clause-short : goal.pass-requires-3-clause-short
pass-requires-3-clause-short g c = let none = (c.new-progress-3.ensures 0).counted 0 in omega (arith, none)
