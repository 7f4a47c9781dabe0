use Rattle.std.proofs.Common.{◌≡◌, ◌++◌, drop}
use Rattle.explain_numbers.specs.Numbered.{numbers_below}
use Rattle.explain_numbers.proofs.numbered.numbers_below.Given as goal

abbrev pub invariant-loop-place : goal.invariant-loop-place
invariant-loop-place l =
    l.numbers.items ++ numbers_below l.bank l.number (drop l.place l.records.records)
    ≡ numbers_below l.bank l.number l.records.records
