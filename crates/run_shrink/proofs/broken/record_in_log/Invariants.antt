use Rattle.std.proofs.Common.{◌≡◌, drop}
use Rattle.run_shrink.specs.Broken.{record_in_log}
use Rattle.run_shrink.proofs.broken.record_in_log.Given as goal

abbrev pub invariant-loop-item : goal.invariant-loop-item
invariant-loop-item l = record_in_log l.log l.left (drop l.item-index l.records) ≡ record_in_log l.log l.at l.records
