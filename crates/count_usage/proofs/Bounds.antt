-- No count is greater than the number of changes.
use Rattle.std.proofs.Common.{ℕ, ◌≤◌, List, [], ◌∷◌, length, arith}
use Rattle.count_usage.specs.declared.change.Change.{Change}
use Rattle.count_usage.specs.declared.change.Change.TheVariants.{Taken, Joined, Filled, Evicted, Nothing}
use Rattle.count_usage.specs.Usage.{lines, held, targets}

pub held_le : (before : List Change) → held before ≤ length before
held_le [] = omega arith
held_le (Taken r ∷ before) = omega (arith, held_le before)
held_le (Joined r ∷ before) = omega (arith, held_le before)
held_le (Filled s ∷ before) = omega (arith, held_le before)
held_le (Evicted s ∷ before) = omega (arith, held_le before)
held_le (Nothing ∷ before) = omega (arith, held_le before)

pub lines_le : (set : ℕ) (before : List Change) → lines set before ≤ length before
lines_le set [] = omega arith
lines_le set (Taken r ∷ before) = omega (arith, lines_le set before)
lines_le set (Joined r ∷ before) = omega (arith, lines_le set before)
lines_le set (Filled s ∷ before) = grind (arith, lines_le set before)
lines_le set (Evicted s ∷ before) = grind (arith, lines_le set before)
lines_le set (Nothing ∷ before) = omega (arith, lines_le set before)

pub targets_le : (register : ℕ) (before : List Change) → targets register before ≤ length before
targets_le register [] = omega arith
targets_le register (Taken r ∷ before) = grind (arith, targets_le register before)
targets_le register (Joined r ∷ before) = grind (arith, targets_le register before)
targets_le register (Filled s ∷ before) = omega (arith, targets_le register before)
targets_le register (Evicted s ∷ before) = omega (arith, targets_le register before)
targets_le register (Nothing ∷ before) = omega (arith, targets_le register before)
