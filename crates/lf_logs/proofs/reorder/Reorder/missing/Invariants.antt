use Rattle.std.proofs.Common.{◌≡◌, ◌<◌, ◌≤◌, ℕ, true}
use Rattle.std.specs.Prelude.{is_some}
use Rattle.lf_logs.specs.Reordering.{early_at}
use Rattle.lf_logs.proofs.reorder.Reorder.missing.Given as goal

abbrev pub invariant-loop-number : goal.invariant-loop-number
invariant-loop-number l = (l.self.next ≤ l.number) × ((j : ℕ) → l.self.next ≤ j → j < l.number →
    is_some (early_at l.self j) ≡ true)
