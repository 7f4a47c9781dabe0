use Rattle.std.proofs.Common.{◌≡◌, ℕ, ◌<◌, []}
use Rattle.lf_rules.specs.Order.{log_at}
use Rattle.lf_model.specs.Walk.{left_of}
use Rattle.lf_model.specs.Recheck.{lists_of}
use Rattle.lf_model.proofs.walk.Walk.is_done.Given as goal

abbrev pub invariant-loop-log : goal.invariant-loop-log
invariant-loop-log l = (k : ℕ) → k < l.log → log_at (left_of l.self.places.items (lists_of l.logs)) k ≡ []
