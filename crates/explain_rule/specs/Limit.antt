-- How many the configuration has of what a rule is about.
use Rattle.std.specs.Prelude.{ℕ, ◌/◌, Bool, false, List, [], ◌∷◌, ◌++◌, Option, Some, None, codes}
use Rattle.std.specs.Prelude.{if◌then◌else◌}
use Rattle.std.specs.Fmt.{decimal}
use Rattle.lf_rules.specs.declared.event.Event.{Event}
use Rattle.lf_rules.specs.declared.event.Event.TheVariants.{Primary, Merge, Stall, SecondPrimary, SecondMerge}
use Rattle.lf_rules.specs.declared.event.Event.TheVariants.{SecondStall, Fill1, Fill2}
use Rattle.lf_rules.specs.declared.event.Record.{Record}
use Rattle.lf_rules.specs.declared.rule.Rule.{Rule}
use Rattle.lf_rules.specs.declared.rule.Rule.TheVariants as rules
use Rattle.lf_rules.specs.declared.shape.OrgShape.{OrgShape}
use Rattle.lf_rules.specs.declared.shape.OrgShape.TheVariants.{Implicit, Explicit, Inverted}
use Rattle.lf_rules.specs.declared.shape.Shape.{Shape}
use Rattle.lf_rules.specs.Address.{set1_of, set2_of}
use Rattle.lf_rules.specs.Registers.{registers_of}
use Rattle.lf_rules.specs.Table.{destinations, destinations2}
use Rattle.explain_replay.specs.declared.broken.Broken.{Broken}
use Rattle.explain_replay.specs.declared.named.NamedBlock.{NamedBlock}
use Rattle.explain_rule.specs.declared.limit.Limit.{Limit}
use Rattle.explain_rule.specs.declared.limit.Limit.TheVariants.{Tags, Registers, Ways, Targets, Words, Blocks}

-- how many registers each level has
abbrev pub registers1 : Shape → ℕ
registers1 shape = registers_of shape.level1.organisation (destinations shape)

abbrev pub registers2 : Shape → ℕ
registers2 shape = registers_of shape.level2.organisation (destinations2 shape)

-- the registers of the level that a miss is at
abbrev pub registers_limit : Shape → Event → Option Limit
registers_limit shape (Primary port tag register) = Some (Registers (registers1 shape))
registers_limit shape (Merge port tag register) = Some (Registers (registers1 shape))
registers_limit shape (SecondPrimary block register) = Some (Registers (registers2 shape))
registers_limit shape (SecondMerge block register) = Some (Registers (registers2 shape))
registers_limit shape _ = None

-- how many targets a register takes: one for each of these where it has a field for each
abbrev pub targets_of : OrgShape → Limit → Limit
targets_of (Implicit registers) fields = fields
targets_of (Explicit registers entries) fields = Targets entries
targets_of Inverted fields = Targets 1

-- level one has a field for each word of a block, level two for each block of a second-level block
abbrev pub targets1 : Shape → Limit
targets1 shape = targets_of shape.level1.organisation (Words (shape.block / 8))

abbrev pub targets2 : Shape → Limit
targets2 shape = targets_of shape.level2.organisation (Blocks shape.factor)

abbrev pub targets_limit : Shape → Event → Option Limit
targets_limit shape (Merge port tag register) = Some (targets1 shape)
targets_limit shape (SecondMerge block register) = Some (targets2 shape)
targets_limit shape _ = None

-- the ways of the set that a block is filled into
abbrev pub ways_limit : Shape → Event → Option Limit
ways_limit shape (Fill1 block bytes) =
    Some (Ways (set1_of shape.banks shape.factor shape.level1.sets block) shape.level1.ways)
ways_limit shape (Fill2 second bytes) = Some (Ways (set2_of shape.banks shape.level2.sets second) shape.level2.ways)
ways_limit shape _ = None

-- does a register of the level of a stall hold the first of these blocks?
abbrev pub is_held : List NamedBlock → Event → Bool
is_held [] event = false
is_held (named ∷ blocks) (Stall port tag) = named.state.held
is_held (named ∷ blocks) (SecondStall block) = named.state.fetched
is_held (named ∷ blocks) _ = false

abbrev pub is_any_held : Option Broken → Event → Bool
is_any_held None event = false
is_any_held (Some broken) event = is_held broken.blocks.items event

-- what a miss needs: a place in the register that holds its block, where it has to join that, or a register
abbrev pub room_of : OrgShape → Bool → ℕ → Limit → Limit
room_of Inverted held registers targets = Registers registers
room_of _ held registers targets = if held then targets else Registers registers

-- what a stall waits for
abbrev pub room_limit : Shape → Bool → Event → Option Limit
room_limit shape held (Stall port tag) =
    Some (room_of shape.level1.organisation held (registers1 shape) (targets1 shape))
room_limit shape held (SecondStall block) =
    Some (room_of shape.level2.organisation held (registers2 shape) (targets2 shape))
room_limit shape held _ = None

-- how many there are of what the rule is about, which an event breaks
abbrev pub limit_of : Shape → Rule → Option Broken → Event → Option Limit
limit_of shape rules.TagRange broken event = Some (Tags shape.tags)
limit_of shape rules.RegisterRange broken event = registers_limit shape event
limit_of shape rules.MergeFull broken event = targets_limit shape event
limit_of shape rules.NeedlessStall broken event = room_limit shape (is_any_held broken event) event
limit_of shape rules.SetFull broken event = ways_limit shape event
limit_of shape _ broken event = None

abbrev pub limit_at : Shape → Rule → Option Broken → Option Record → Option Limit
limit_at shape rule broken None = None
limit_at shape rule broken (Some r) = limit_of shape rule broken r.event

-- how many there are, as a line of its own
abbrev pub limit_line : Limit → List ℕ
limit_line (Tags tags) = codes "  there are tags=" ++ decimal tags ++ 10 ∷ []
limit_line (Registers registers) = codes "  there are registers=" ++ decimal registers ++ 10 ∷ []
limit_line (Ways set ways) =
    codes "  there are ways=" ++ decimal ways ++ codes " in set=" ++ decimal set ++ 10 ∷ []
limit_line (Targets targets) = codes "  a register takes targets=" ++ decimal targets ++ 10 ∷ []
limit_line (Words words) = codes "  a register takes one target for each of words=" ++ decimal words ++ 10 ∷ []
limit_line (Blocks blocks) = codes "  a register takes one target for each of blocks=" ++ decimal blocks ++ 10 ∷ []

abbrev pub limit_text : Option Limit → List ℕ
limit_text None = []
limit_text (Some limit) = limit_line limit

-- the register that is free, as a line of its own
abbrev pub free_text : Option ℕ → List ℕ
free_text None = []
free_text (Some register) = codes "  free register=" ++ decimal register ++ 10 ∷ []
