use Rattle.std.proofs.Common.{take}
use Rattle.std.specs.List.{AllByRecursion}
use Rattle.lf_rules.specs.Fits.{Fits}
use Rattle.text_tests.proofs.explanation.all_fit.Given as goal

abbrev pub invariant-loop-item : goal.invariant-loop-item
invariant-loop-item l = AllByRecursion (Fits l.shape) (take l.item-index l.records)
