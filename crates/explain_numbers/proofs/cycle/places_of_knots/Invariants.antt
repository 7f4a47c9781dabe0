use Rattle.std.proofs.Common.{◌≡◌, map, take}
use Rattle.explain_numbers.specs.Cycle.{place_of_knot}
use Rattle.explain_numbers.proofs.cycle.places_of_knots.Given as goal

abbrev pub invariant-loop-knot : goal.invariant-loop-knot
invariant-loop-knot l = l.places.items ≡ map (place_of_knot l.records.records) (take l.knot-index l.ring)
