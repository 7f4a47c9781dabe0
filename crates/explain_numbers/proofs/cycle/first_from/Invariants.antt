use Rattle.std.proofs.Common.{◌≡◌, drop}
use Rattle.std.specs.Prelude.{slice_get}
use Rattle.explain_history.specs.Places.{places_from}
use Rattle.explain_numbers.specs.Cycle.{has_number_in}
use Rattle.explain_numbers.proofs.cycle.first_from.Given as goal

abbrev pub invariant-loop-place : goal.invariant-loop-place
invariant-loop-place l =
    slice_get (places_from (has_number_in l.log l.bank l.number) l.place (drop l.place l.records.records)) 0
    ≡ slice_get (places_from (has_number_in l.log l.bank l.number) l.from (drop l.from l.records.records)) 0
