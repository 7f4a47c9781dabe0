use Rattle.std.proofs.Common.{◌≡◌, map, take}
use Rattle.lf_join.specs.RunOn.{knot_behind}
use Rattle.lf_join.proofs.progress.Progress.whole_ring.Given as goal

abbrev pub invariant-loop-knot : goal.invariant-loop-knot
invariant-loop-knot l = l.whole.items ≡ map (knot_behind l.fn.self.places) (take l.knot-index l.ring.items)
