-- It is the first one of those of the logs so far.
use Rattle.wave_order.proofs.Earliest.{IsBest}
use Rattle.wave_order.proofs.left.Left.first.Given as goal

abbrev pub invariant-loop-log : goal.invariant-loop-log
invariant-loop-log l = IsBest l.times l.self l.log l.first
