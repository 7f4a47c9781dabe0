use Rattle.std.proofs.Common.{◌≡◌}
use Rattle.log_tests.proofs.ports.answers.Given as goal

abbrev pub invariant-loop-text : goal.invariant-loop-text
invariant-loop-text l = l.step.port ≡ 0
