use Rattle.std.proofs.Common.{◌≡◌, take}
use Rattle.explain_history.proofs.packing.packed.Given as goal

abbrev pub invariant-loop-item : goal.invariant-loop-item
invariant-loop-item l = l.packed.records ≡ take l.item-index l.records
