use Rattle.std.proofs.Common.{take}
use Rattle.std.specs.List.{AllByRecursion}
use Rattle.lf_codec.specs.Trace.{FitsIn}
use Rattle.lf_codec.proofs.fitting.records_fit.Given as goal

abbrev pub invariant-loop-item : goal.invariant-loop-item
invariant-loop-item l = AllByRecursion (FitsIn l.header) (take l.item-index l.records)
