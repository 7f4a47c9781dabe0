use Rattle.std.proofs.Common.{ℕ, List, ◌++◌, drop}
use Rattle.lf_stats.specs.Standing.{AreTimes}
use Rattle.lf_stats.proofs.held.Times.take_all.Given as goal

abbrev pub invariant-loop-register : goal.invariant-loop-register
invariant-loop-register l = (others : List ℕ) → AreTimes l.initial.self (l.registers ++ others) →
    AreTimes l.self (drop l.register-index l.registers ++ others)
