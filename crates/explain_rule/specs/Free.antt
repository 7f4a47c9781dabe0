-- Which register is free where a stall is needless.
use Rattle.std.specs.Prelude.{ℕ, Bool, not, List, Option, Some, None, slice_get}
use Rattle.std.specs.List.{range_with_len, list_any, find}
use Rattle.lf_rules.specs.declared.event.Event.{Event}
use Rattle.lf_rules.specs.declared.event.Event.TheVariants.{Stall, SecondStall}
use Rattle.lf_rules.specs.declared.event.Record.{Record}
use Rattle.lf_rules.specs.declared.rule.Rule.{Rule}
use Rattle.lf_rules.specs.declared.rule.Rule.TheVariants as rules
use Rattle.lf_rules.specs.declared.shape.OrgShape.{OrgShape}
use Rattle.lf_rules.specs.declared.shape.OrgShape.TheVariants.{Inverted}
use Rattle.lf_rules.specs.declared.shape.Shape.{Shape}
use Rattle.lf_rules.specs.Table.{destination}
use Rattle.explain_origins.specs.declared.standing.Origin.{Origin}
use Rattle.explain_origins.specs.declared.origins.Origins.{Origins}
use Rattle.explain_origins.specs.declared.parts.StatePart.TheVariants.{Targets1}
use Rattle.explain_origins.specs.Events.{is_key}
use Rattle.explain_origins.specs.Holding.{register_in, register_of}
use Rattle.explain_rule.specs.declared.limit.Limit.{Limit}
use Rattle.explain_rule.specs.declared.limit.Limit.TheVariants.{Registers}

-- does one of these misses name the register?
abbrev pub is_named : List Record → List Origin → ℕ → Bool
is_named rs all register = list_any (λ origin. is_key register (register_in (slice_get rs origin.place))) all

-- the lowest register that none of them names
abbrev pub lowest_free : List Record → List Origin → ℕ → Option ℕ
lowest_free rs all count = find (λ register. not (is_named rs all register)) (range_with_len 0 count)

-- the lowest register that no miss holds, where these hold registers; of an inverted file the one that is wanted
abbrev pub free_in : List Record → OrgShape → Option ℕ → ℕ → Option Origins → Option ℕ
free_in rs Inverted wanted count origins = wanted
free_in rs _ wanted count None = None
free_in rs _ wanted count (Some origins) = lowest_free rs origins.records.items count

-- The register that is free at a stall which waits for one of so many, after the records at the places before. In an
-- inverted file of level two a block takes the register of its primary miss.
abbrev pub free_of : Shape → List Record → List (Option ℕ) → Option Limit → Option Origins → Event → Option ℕ
free_of shape rs before (Some (Registers count)) origins (Stall port tag) =
    free_in rs shape.level1.organisation (Some (destination shape port tag)) count origins
free_of shape rs before (Some (Registers count)) origins (SecondStall block) =
    free_in rs shape.level2.organisation (register_of shape rs before (Targets1 block)) count origins
free_of shape rs before limit origins event = None

-- the same of the record at a place, where its stall is needless
abbrev pub free_at : Shape → List Record → List (Option ℕ) → Rule → Option Limit → Option Origins → Option Record →
    Option ℕ
free_at shape rs before rules.NeedlessStall limit origins (Some r) = free_of shape rs before limit origins r.event
free_at shape rs before rule limit origins item = None
