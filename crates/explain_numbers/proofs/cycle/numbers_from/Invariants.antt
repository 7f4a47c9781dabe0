use Rattle.std.proofs.Common.{◌≡◌, ◌++◌, drop}
use Rattle.explain_numbers.specs.Cycle.{numbers_in}
use Rattle.explain_numbers.proofs.cycle.numbers_from.Given as goal

abbrev pub invariant-loop-place : goal.invariant-loop-place
invariant-loop-place l =
    l.numbers.items ++ numbers_in l.log l.bank (drop l.place l.records.records)
    ≡ numbers_in l.log l.bank (drop l.from l.records.records)
