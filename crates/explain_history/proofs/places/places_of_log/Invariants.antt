use Rattle.std.proofs.Common.{◌≡◌, ◌++◌, ◌==◌, drop}
use Rattle.explain_history.specs.Places.{places_from, places_of_log}
use Rattle.explain_history.proofs.places.places_of_log.Given as goal

abbrev pub invariant-loop-place : goal.invariant-loop-place
invariant-loop-place l = l.places.items ++ places_from (λ r. r.log == l.log) l.place (drop l.place l.records.records)
    ≡ places_of_log l.log l.records.records
