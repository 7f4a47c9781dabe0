-- The places so far are the first of the history's.
use Rattle.std.proofs.Common.{◌≡◌, Some, map, take}
use Rattle.explain_rule.proofs.found.places_in_log.Given as goal

abbrev pub invariant-loop-place : goal.invariant-loop-place
invariant-loop-place l = l.places.items ≡ map Some (take l.place-index l.place-items)
