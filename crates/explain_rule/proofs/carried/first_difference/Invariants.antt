use Rattle.std.proofs.Common.{◌≡◌, ◌+◌, nat_eq, drop}
use Rattle.std.specs.List.{common_prefix_len}
use Rattle.explain_rule.proofs.carried.first_difference.Given as goal

abbrev pub invariant-loop-place : goal.invariant-loop-place
invariant-loop-place l = l.place + common_prefix_len nat_eq (drop l.place l.due) (drop l.place l.found)
    ≡ common_prefix_len nat_eq l.due l.found
