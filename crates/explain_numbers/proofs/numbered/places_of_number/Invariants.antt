use Rattle.std.proofs.Common.{◌≡◌, ◌++◌, drop}
use Rattle.explain_history.specs.Places.{places_from, is_numbered}
use Rattle.explain_numbers.specs.Numbered.{places_of_number}
use Rattle.explain_numbers.proofs.numbered.places_of_number.Given as goal

abbrev pub invariant-loop-place : goal.invariant-loop-place
invariant-loop-place l =
    l.places.items ++ places_from (is_numbered l.bank l.number) l.place (drop l.place l.records.records)
    ≡ places_of_number l.bank l.number l.records.records
