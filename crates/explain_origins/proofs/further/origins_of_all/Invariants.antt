use Rattle.std.proofs.Common.{take}
use Rattle.explain_origins.specs.Further.{AreOf}
use Rattle.explain_origins.proofs.further.origins_of_all.Given as goal

abbrev pub invariant-loop-part : goal.invariant-loop-part
invariant-loop-part l = AreOf l.shape l.records.records l.before (take l.part-index l.parts) l.all.items
