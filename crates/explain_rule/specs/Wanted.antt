-- Which register a miss has to take that took another one.
use Rattle.std.specs.Prelude.{ℕ, List, [], ◌++◌, Option, Some, None, codes}
use Rattle.lf_rules.specs.Address.{block_of, second_of}
use Rattle.lf_rules.specs.declared.event.Event.{Event}
use Rattle.lf_rules.specs.declared.event.Event.TheVariants.{Merge, SecondPrimary, SecondMerge}
use Rattle.lf_rules.specs.declared.event.Record.{Record}
use Rattle.lf_rules.specs.declared.rule.Rule.{Rule}
use Rattle.lf_rules.specs.declared.rule.Rule.TheVariants as rules
use Rattle.lf_rules.specs.declared.shape.OrgShape.{OrgShape}
use Rattle.lf_rules.specs.declared.shape.OrgShape.TheVariants.{Inverted}
use Rattle.lf_rules.specs.declared.shape.Shape.{Shape}
use Rattle.explain_replay.specs.declared.broken.Broken.{Broken}
use Rattle.explain_origins.specs.declared.parts.StatePart.{StatePart}
use Rattle.explain_origins.specs.declared.parts.StatePart.TheVariants.{Targets1, Targets2}
use Rattle.explain_origins.specs.Holding.{register_of}
use Rattle.explain_rule.specs.Carried.{number_line, register_of as carried_register}
use Rattle.explain_rule.specs.Origins.{named_address}

-- the targets of the block of a merge at level one, which is at this address: in an inverted file each miss has a
-- register of its own
abbrev pub merged : Shape → OrgShape → Option ℕ → Option StatePart
merged shape Inverted address = None
merged shape _ None = None
merged shape _ (Some address) = Some (Targets1 (block_of shape address))

-- the targets of the second-level block of a merge at level two, or in an inverted file those of its block at level one
abbrev pub second_merged : Shape → OrgShape → ℕ → StatePart
second_merged shape Inverted block = Targets1 block
second_merged shape _ block = Targets2 (second_of shape block)

-- the part of the state whose register a miss has to take, where that is not the one of its request
abbrev pub wanted_part : Shape → Option ℕ → Event → Option StatePart
wanted_part shape address (Merge port tag register) = merged shape shape.level1.organisation address
wanted_part shape address (SecondPrimary block register) = Some (Targets1 block)
wanted_part shape address (SecondMerge block register) = Some (second_merged shape shape.level2.organisation block)
wanted_part shape address _ = None

abbrev pub register_of_any : Shape → List Record → List (Option ℕ) → Option StatePart → Option ℕ
register_of_any shape rs before None = None
register_of_any shape rs before (Some part) = register_of shape rs before part

-- the register that the record has to name, after those at the places before, where it breaks the rule
abbrev pub wanted_at : Shape → List Record → List (Option ℕ) → Rule → Option Broken → Option Record → Option ℕ
wanted_at shape rs before rules.WrongRegister broken (Some r) =
    register_of_any shape rs before (wanted_part shape (named_address broken) r.event)
wanted_at shape rs before rule broken item = None

-- that register, and the one that the event names
abbrev pub wanted_lines : Option ℕ → Event → List ℕ
wanted_lines None event = []
wanted_lines (Some wanted) event =
    number_line (codes "expected register=") wanted ++ number_line (codes "found    register=") (carried_register event)

abbrev pub wanted_text : Option Record → Option ℕ → List ℕ
wanted_text None wanted = []
wanted_text (Some r) wanted = wanted_lines wanted r.event
