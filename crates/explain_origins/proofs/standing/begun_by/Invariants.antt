use Rattle.std.proofs.Common.{◌≡◌, ◌++◌, drop}
use Rattle.explain_origins.specs.Kept.{begun_by}
use Rattle.explain_origins.proofs.standing.begun_by.Given as goal

abbrev pub invariant-loop-one : goal.invariant-loop-one
invariant-loop-one l = l.all.items ++ begun_by (drop l.one-index l.begun) ≡ begun_by l.begun
