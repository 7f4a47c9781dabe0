use Rattle.std.proofs.Common.{◌+◌, ◌-◌, length}
use Rattle.lf_logs.proofs.Placing.{Placed, misplaced}
use Rattle.lf_logs.proofs.banks.order_by_number.Given as goal

abbrev pub invariant-loop-at : goal.invariant-loop-at
invariant-loop-at l = Placed l.fn.records l.records l.at

abbrev pub decreases-loop-at : goal.decreases-loop-at
decreases-loop-at l = (length l.records - l.at) + misplaced 0 l.records
