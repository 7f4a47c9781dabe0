-- Where the records are so far, and where the others will be, is the whole axis.
use Rattle.std.proofs.Common.{◌≡◌, ◌++◌, drop}
use Rattle.wave_order.specs.Times.{axis_from, axis}
use Rattle.wave_order.proofs.clock.Clock.new.Given as goal

abbrev pub invariant-loop-log : goal.invariant-loop-log
invariant-loop-log l = l.at.items ++ axis_from l.times l.counts.0 l.least (drop l.log-index l.logs) ≡ axis l.times l.logs
