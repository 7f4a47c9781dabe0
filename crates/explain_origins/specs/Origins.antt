-- Which records the state comes from that a rule is about.
use Rattle.std.specs.Prelude.{◌≡◌, ℕ, Bool, List, [], ◌∷◌, ◌++◌, Option, Some, None, if◌then◌else◌}
use Rattle.std.specs.List.{list_any}
use Rattle.lf_rules.specs.declared.event.Event.{Event}
use Rattle.lf_rules.specs.declared.event.Event.TheVariants as events
use Rattle.lf_rules.specs.declared.event.Record.{Record}
use Rattle.lf_rules.specs.declared.rule.Rule.{Rule}
use Rattle.lf_rules.specs.declared.rule.Rule.TheVariants as rules
use Rattle.lf_rules.specs.declared.shape.Shape.{Shape}
use Rattle.lf_rules.specs.Address.{block_of, second_of, offset_of, set1_of, set2_of}
use Rattle.explain_history.specs.Touching.{record_at}
use Rattle.explain_origins.specs.declared.origins.Origins.{Origins}
use Rattle.explain_origins.specs.declared.parts.StatePart.{StatePart}
use Rattle.explain_origins.specs.declared.parts.StatePart.TheVariants as parts
use Rattle.explain_origins.specs.declared.requests.IssuedRequest.{IssuedRequest}
use Rattle.explain_origins.specs.declared.standing.Origin.{Origin}
use Rattle.explain_origins.specs.Events.{is_key}
use Rattle.explain_origins.specs.Parts.{begun, ended}
use Rattle.explain_origins.specs.Requests.{Queues, none_waits, queued, accepted, origin_of}
use Rattle.explain_origins.specs.Seen.{seen_by}

-- ---- records, one after another

-- a record at a place of the trace, with the request that it accepts
pub record Step : Type 0 where
  pub place : ℕ
  pub request : Option IssuedRequest
  pub item : Record

abbrev pub step_at : Queues → Option ℕ → Option Record → List Step
step_at queues (Some place) (Some r) =
    record { place = place; request = accepted queues r.event; item = r } ∷ []
step_at queues _ _ = []

abbrev pub queues_after : Shape → Queues → Option ℕ → Option Record → Queues
queues_after shape queues (Some place) (Some r) = queued shape place r.log r.event queues
queues_after shape queues _ _ = queues

-- the records at these places, one after another, where these requests wait before them
abbrev pub steps : Shape → Queues → List Record → List (Option ℕ) → List Step
steps shape queues rs [] = []
steps shape queues rs (at ∷ places) =
    step_at queues at (record_at rs at) ++ steps shape (queues_after shape queues at (record_at rs at)) rs places

-- ---- what stands after them

abbrev pub origin_at : Step → Origin
origin_at step = origin_of step.place step.request

-- what the record begins in a part of the state, and what it ends
abbrev pub begun_at : Shape → StatePart → Step → Option ℕ
begun_at shape part step = begun shape part step.place step.request step.item

abbrev pub ended_at : StatePart → Step → Option ℕ
ended_at part step = ended part step.request step.item

-- does one of these records end what has this key?
abbrev pub is_ended : StatePart → ℕ → List Step → Bool
is_ended part key later = list_any (λ step. is_key key (ended_at part step)) later

-- a record that begins what no later record ends
abbrev pub unless_ended : StatePart → Origin → Option ℕ → List Step → List Origin
unless_ended part origin None later = []
unless_ended part origin (Some key) later = if is_ended part key later then [] else origin ∷ []

-- all such records, in their order
abbrev pub standing : Shape → StatePart → List Step → List Origin
standing shape part [] = []
standing shape part (step ∷ later) =
    unless_ended part (origin_at step) (begun_at shape part step) later ++ standing shape part later

-- ---- the parts that rules are about

-- the set that a block is to be filled into
abbrev pub filled_set : Shape → Event → Option StatePart
filled_set shape (events.Fill1 block bytes) =
    Some (parts.LinesOfSet1 (set1_of shape.banks shape.factor shape.level1.sets block))
filled_set shape (events.Fill2 second bytes) = Some (parts.LinesOfSet2 (set2_of shape.banks shape.level2.sets second))
filled_set shape _ = None

-- the registers of the level that a miss is at
abbrev pub registers : Event → Option StatePart
registers (events.Primary port tag register) = Some parts.Registers1
registers (events.Merge port tag register) = Some parts.Registers1
registers (events.Stall port tag) = Some parts.Registers1
registers (events.SecondPrimary block register) = Some parts.Registers2
registers (events.SecondMerge block register) = Some parts.Registers2
registers (events.SecondStall block) = Some parts.Registers2
registers _ = None

-- the targets of the register that a miss names
abbrev pub targets_named : Event → Option StatePart
targets_named (events.Primary port tag register) = Some (parts.Register1 register)
targets_named (events.Merge port tag register) = Some (parts.Register1 register)
targets_named (events.SecondPrimary block register) = Some (parts.Register2 register)
targets_named (events.SecondMerge block register) = Some (parts.Register2 register)
targets_named _ = None

-- the requests that wait of the port whose request is accepted or stalls
abbrev pub queue : Event → Option StatePart
queue (events.Hit port tag) = Some (parts.Queue port)
queue (events.Primary port tag register) = Some (parts.Queue port)
queue (events.Merge port tag register) = Some (parts.Queue port)
queue (events.Stall port tag) = Some (parts.Queue port)
queue _ = None

-- what level one has on the second-level block that is to be evicted
abbrev pub evicted_second : Event → Option StatePart
evicted_second (events.Evict2 second masks bytes) = Some (parts.WithinSecond second)
evicted_second _ = None

-- what made bytes of the line dirty that is to be evicted
abbrev pub dirty_line : Event → Option StatePart
dirty_line (events.Evict1 block mask bytes) = Some (parts.DirtyLine1 block)
dirty_line (events.Evict2 second masks bytes) = Some (parts.DirtyLine2 second)
dirty_line _ = None

-- the last store to the byte at an address
abbrev pub last_store : Shape → Option ℕ → Option StatePart
last_store shape None = None
last_store shape (Some address) = Some (parts.LastStore (block_of shape address) (offset_of shape address))

-- the request with the tag that is issued
abbrev pub busy_tag : ℕ → Event → Option StatePart
busy_tag log (events.Issue op tag size address bytes) = Some (parts.BusyTag log tag)
busy_tag log _ = None

-- the request that a reply is to
abbrev pub replied : ℕ → Event → Option StatePart
replied log (events.Reply tag size bytes) = Some (parts.BusyTag log tag)
replied log _ = None

-- the line of level one on the block at an address
abbrev pub line1_at : Shape → Option ℕ → Option StatePart
line1_at shape None = None
line1_at shape (Some address) = Some (parts.Line1 (block_of shape address))

-- the line of level two that a miss at level two is beside
abbrev pub line2_of : Shape → Event → Option StatePart
line2_of shape (events.SecondPrimary block register) = Some (parts.Line2 (second_of shape block))
line2_of shape (events.SecondMerge block register) = Some (parts.Line2 (second_of shape block))
line2_of shape (events.SecondStall block) = Some (parts.Line2 (second_of shape block))
line2_of shape _ = None

-- the part of the state that a rule is about, where this record breaks it and the fault is at this address
abbrev pub part_of : Shape → Rule → Option ℕ → Record → Option StatePart
part_of shape rules.SetFull address r = filled_set shape r.event
part_of shape rules.PrimaryInFlight address r = registers r.event
part_of shape rules.NotInFlight address r = registers r.event
part_of shape rules.WrongRegister address r = registers r.event
part_of shape rules.RegisterBusy address r = targets_named r.event
part_of shape rules.MergeFull address r = targets_named r.event
part_of shape rules.NeedlessStall address r = registers r.event
part_of shape rules.NotHead address r = queue r.event
part_of shape rules.NotReady address r = Some (parts.Unanswered r.log)
part_of shape rules.NotOutstanding address r = Some (parts.Outstanding r.log)
part_of shape rules.FenceBusy address r = Some (parts.Outstanding r.log)
part_of shape rules.TagBusy address r = busy_tag r.log r.event
part_of shape rules.ReplySize address r = replied r.log r.event
part_of shape rules.Present address r = line1_at shape address
part_of shape rules.SecondPresent address r = line2_of shape r.event
part_of shape rules.Inclusion address r = evicted_second r.event
part_of shape rules.EvictMask address r = dirty_line r.event
part_of shape rules.ReplyData address r = last_store shape address
part_of shape rules.FillData address r = last_store shape address
part_of shape rules.EvictData address r = last_store shape address
part_of shape _ address r = None

-- They are of this part: the records that it comes from, of those at the places before, each with its request.
pub record AreOriginsOf (shape : Shape) (rs : List Record) (before : List (Option ℕ)) (part : StatePart)
    (origins : Origins) : Type 0 where
  pub part_is : origins.part ≡ part
  pub records : origins.records.items ≡ standing shape part (steps shape none_waits rs before)

abbrev pub AreOriginsOfAny : Shape → List Record → List (Option ℕ) → Option StatePart → Option Origins → Type 0
AreOriginsOfAny shape rs before None origins = origins ≡ None
AreOriginsOfAny shape rs before (Some part) None = ⊥
AreOriginsOfAny shape rs before (Some part) (Some origins) = AreOriginsOf shape rs before part origins

-- The part of the state that the rule is about, where there is one, by the records that it comes from, of those at
-- these places that the rule looks at.
abbrev pub AreOrigins : Shape → List Record → List (Option ℕ) → Rule → Option ℕ → Record → Option Origins → Type 0
AreOrigins shape rs before rule address r origins =
    AreOriginsOfAny shape rs (seen_by rs rule r before) (part_of shape rule address r) origins
