use Rattle.std.proofs.Common.{◌≡◌, take}
use Rattle.std.specs.List.{All}
use Rattle.lf_rules.specs.Fits.{Fits}
use Rattle.log_tests.proofs.rechecks.log_is_sound.Given as goal

abbrev pub invariant-loop-item : goal.invariant-loop-item
invariant-loop-item l = record {
  fits : All (Fits l.shape) (take l.item-index l.records);
  named : All
      (λ r. r.log ≡ l.log) (take l.item-index l.records);
}
