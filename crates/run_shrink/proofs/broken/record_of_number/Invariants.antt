use Rattle.std.proofs.Common.{◌≡◌, drop}
use Rattle.run_shrink.specs.Broken.{record_of_number}
use Rattle.run_shrink.proofs.broken.record_of_number.Given as goal

abbrev pub invariant-loop-item : goal.invariant-loop-item
invariant-loop-item l =
    record_of_number l.bank l.number (drop l.item-index l.records) ≡ record_of_number l.bank l.number l.records
