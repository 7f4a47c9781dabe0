-- The register that holds a block.
use Rattle.std.specs.Prelude.{ℕ, List, [], ◌∷◌, Option, Some, None, slice_get}
use Rattle.lf_rules.specs.declared.event.Record.{Record}
use Rattle.lf_rules.specs.declared.shape.Shape.{Shape}
use Rattle.explain_origins.specs.declared.parts.StatePart.{StatePart}
use Rattle.explain_origins.specs.declared.standing.Origin.{Origin}
use Rattle.explain_origins.specs.Events.{named_register}
use Rattle.explain_origins.specs.Origins.{steps, standing}
use Rattle.explain_origins.specs.Requests.{none_waits}

abbrev pub register_in : Option Record → Option ℕ
register_in None = None
register_in (Some r) = named_register r.event

-- the register that the first of these misses took
abbrev pub first_register : List Record → List Origin → Option ℕ
first_register rs [] = None
first_register rs (miss ∷ misses) = register_in (slice_get rs miss.place)

-- The register of this part of the state, which are the targets of a block: that of its primary miss, of those at the
-- places before.
abbrev pub register_of : Shape → List Record → List (Option ℕ) → StatePart → Option ℕ
register_of shape rs before part = first_register rs (standing shape part (steps shape none_waits rs before))
