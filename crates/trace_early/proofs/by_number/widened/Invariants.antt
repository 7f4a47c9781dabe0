use Rattle.trace_early.proofs.Widening.{IsWidened}
use Rattle.trace_early.proofs.by_number.widened.Given as goal

abbrev pub invariant-loop-slot : goal.invariant-loop-slot
invariant-loop-slot l = IsWidened l.slots l.wider.items l.slot-index
