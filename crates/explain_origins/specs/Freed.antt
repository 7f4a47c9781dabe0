-- The last record that ended something of a part of the state, and what it ended.
use Rattle.std.specs.Prelude.{ℕ, ◌==◌, List, [], ◌∷◌, ◌++◌, Option, Some, None, if◌then◌else◌}
use Rattle.std.specs.List.{flat_map}
use Rattle.lf_rules.specs.declared.shape.Shape.{Shape}
use Rattle.explain_origins.specs.declared.parts.StatePart.{StatePart}
use Rattle.explain_origins.specs.declared.standing.Begun.{Begun}
use Rattle.explain_origins.specs.declared.standing.Origin.{Origin}
use Rattle.explain_origins.specs.Kept.{kept_after}
use Rattle.explain_origins.specs.Origins.{Step, origin_at, begun_at, ended_at}

-- the record that began this, where it has the key
abbrev pub origin_if : ℕ → Begun → List Origin
origin_if key one = if one.key == key then one.origin ∷ [] else []

-- the records that began those with the key
abbrev pub origins_with : Option ℕ → List Begun → List Origin
origins_with None kept = []
origins_with (Some key) kept = flat_map (origin_if key) kept

-- these and the record that ends them; the former ones where it ends none
abbrev pub end_after : List Origin → Origin → List Origin → List Origin
end_after last origin [] = last
end_after last origin (one ∷ ended) = one ∷ ended ++ origin ∷ []

-- The last of these records that ends something which was begun before it, behind the records that began what it ends.
-- Before them these were begun, and `last` was told.
abbrev pub last_end : Shape → StatePart → List Begun → List Origin → List Step → List Origin
last_end shape part kept last [] = last
last_end shape part kept last (step ∷ later) =
    last_end shape part
    (kept_after (origin_at step) (begun_at shape part step) (ended_at part step) kept)
    (end_after last (origin_at step) (origins_with (ended_at part step) kept)) later
