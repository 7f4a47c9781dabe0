use Rattle.std.proofs.Common.{◌≡◌}
use Rattle.bank_tests.proofs.steps.refused.Given as goal

abbrev pub invariant-loop-item : goal.invariant-loop-item
invariant-loop-item l = record { same_shape : l.step.state.shape ≡ l.shape; first_bank : l.step.bank ≡ 0 }
