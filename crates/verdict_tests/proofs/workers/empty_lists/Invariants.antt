use Rattle.std.proofs.Common.{◌≡◌, [], replicate}
use Rattle.lf_rules.specs.Lists.{lists_of}
use Rattle.verdict_tests.proofs.workers.empty_lists.Given as goal

abbrev pub invariant-loop-made : goal.invariant-loop-made
invariant-loop-made g l = lists_of l.all ≡ replicate l._made []
