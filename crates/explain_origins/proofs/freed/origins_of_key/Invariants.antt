use Rattle.std.proofs.Common.{◌≡◌, ◌++◌, drop}
use Rattle.std.specs.List.{flat_map}
use Rattle.explain_origins.specs.Freed.{origin_if}
use Rattle.explain_origins.proofs.freed.origins_of_key.Given as goal

abbrev pub invariant-loop-one : goal.invariant-loop-one
invariant-loop-one l =
    l.all.items ++ flat_map (origin_if l.key) (drop l.one-index l.kept) ≡ flat_map (origin_if l.key) l.kept
