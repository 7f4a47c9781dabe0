use Rattle.std.proofs.Common.{◌≤◌}
use Rattle.explain_json.proofs.breach.count_before.Given as goal

abbrev pub invariant-loop-at : goal.invariant-loop-at
invariant-loop-at l = l.count ≤ l.at
