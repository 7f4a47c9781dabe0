use Rattle.std.proofs.Common.{◌≡◌, ◌++◌, map, take}
use Rattle.lf_join.specs.Heads.{knot_of}
use Rattle.lf_join.proofs.heads.Heads.push_knots.Given as goal

abbrev pub invariant-loop-log : goal.invariant-loop-log
invariant-loop-log l = l.ring.items ≡ l.fn.ring.items ++ map (knot_of l.self.places) (take l.log-index l.logs)
