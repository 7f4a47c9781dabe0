use Rattle.std.proofs.Common.{◌≡◌, map, take}
use Rattle.lf_rules.specs.Ring.{skeletons_of}
use Rattle.lf_rules.specs.Lists.{lists_of}
use Rattle.lf_logs.proofs.skeleton.skeletons.Given as goal

abbrev pub invariant-loop-log : goal.invariant-loop-log
invariant-loop-log l = lists_of l.all ≡ skeletons_of (map (λ v. v.items) (take l.log-index l.logs.items))
