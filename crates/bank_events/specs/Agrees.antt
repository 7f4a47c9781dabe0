-- When what a bank knows is a state of the model.
use Rattle.std.specs.Prelude.{◌≡◌, ℕ, true, map, Option, Some, None, T}
use Rattle.std.specs.FinMap.Entries.{is_sorted}
use Rattle.std.specs.List.{AllByRecursion}
use Rattle.std.specs.Ordering.{nat_cmp}
use Rattle.lf_rules.specs.declared.shape.Shape.{Shape}
use Rattle.lf_rules.specs.declared.event.Event.{Event}
use Rattle.lf_rules.specs.declared.rule.Rule.{Rule}
use Rattle.lf_rules.specs.Address.{Masks, second_of, places}
use Rattle.lf_rules.specs.Clauses.{OfBank}
use Rattle.lf_rules.specs.Lines.{line_at, lines_of_set}
use Rattle.lf_rules.specs.Registers.{Held, holds, holds_in}
use Rattle.lf_rules.specs.Run.{first_failing}
use Rattle.lf_rules.specs.State.{Asked, Slice, Local}
use Rattle.lf_rules.specs.Table.{is_asked, asked_register, is_among, store_bytes, block_asked, rules_of, carries}
use Rattle.lf_rules.specs.Table.{slice_after, memory_after, value_at, accepts, replies_at}
use Rattle.bank_cells.specs.declared.known.Fetch.TheVariants as fetch
use Rattle.bank_cells.specs.declared.known.First.{First}
use Rattle.bank_cells.specs.declared.known.First.TheVariants as level1
use Rattle.bank_cells.specs.declared.known.Second.{Second}
use Rattle.bank_cells.specs.declared.known.Second.TheVariants as level2
use Rattle.bank_events.specs.Apart.{EachStands}
use Rattle.bank_events.specs.Known.{Known, is_in_flight, is_asking, is_supplied, register_of}
use Rattle.bank_events.specs.Known.{is_second_in_flight, second_register_of}
use Rattle.bank_events.specs.KnownRules.{set1, set2, dirty_at, known_broken}
use Rattle.bank_events.specs.KnownAfter.{known_after}

-- the line that level one has of a block, by how far the block is and what stores wrote of it
abbrev pub line1_of : First → ℕ → Option ℕ
line1_of level1.Absent written = None
line1_of (level1.InFlight register how) written = None
line1_of level1.Present written = Some written

-- what is written of a block that no level-one register holds, and has no line
abbrev pub IsClean : First → ℕ → Type 0
IsClean level1.Absent written = written ≡ 0
IsClean (level1.InFlight register how) written = Unit {0}
IsClean level1.Present written = Unit {0}

-- The slice has of a block what is known of it.
pub record BlockAgrees (slice : Slice) (block : ℕ) (f : First) (written : ℕ) : Type 0 where
  pub line : line_at slice.lines1 block ≡ line1_of f written
  pub asked : is_asked slice.asked block ≡ is_asking f
  pub supplied : is_among slice.supplied block ≡ is_supplied f
  pub waits : holds slice.waiting block ≡ is_in_flight f
  pub asker : is_asking f ≡ true → asked_register slice.asked block ≡ register_of f
  pub primary : is_in_flight f ≡ true → holds_in slice.waiting (register_of f) block ≡ true
  pub stores : is_in_flight f ≡ true → store_bytes slice.waiting block ≡ written
  pub clean : IsClean f written

-- the line that level two has of a second-level block
abbrev pub line2_of : Second → Masks → Option Masks
line2_of level2.Absent masks = None
line2_of (level2.InFlight register) masks = None
line2_of level2.Present masks = Some masks

-- the dirty masks of a second-level block
abbrev pub masks_of : Shape → Known → ℕ → Masks
masks_of shape k second = record { items = map (dirty_at shape k second) (places shape) }

pub record SecondAgrees (slice : Slice) (second : ℕ) (s : Second) (masks : Masks) : Type 0 where
  pub line : line_at slice.lines2 second ≡ line2_of s masks
  pub fetched : holds slice.regs2 second ≡ is_second_in_flight s
  pub primary : is_second_in_flight s ≡ true → holds_in slice.regs2 (second_register_of s) second ≡ true

-- the block that a target of level two asks for is in a level-two register, that of its second-level block
abbrev pub IsFetched : Shape → (ℕ → First) → Held Asked → Type 0
IsFetched shape f h = (f (block_asked h) ≡ level1.InFlight h.target.1 fetch.Missed) ×
    (second_of shape (block_asked h) ≡ h.block)

-- What the bank knows is this state.
pub record Agrees (shape : Shape) (now : Local) (k : Known) : Type 0 where
  pub queue : now.slice.queue ≡ k.queue
  pub ready : now.slice.ready ≡ k.ready
  pub memory : now.memory ≡ k.memory
  pub waiting : now.slice.waiting ≡ k.waiting
  pub regs2 : now.slice.regs2 ≡ k.regs2
  pub blocks : (block : ℕ) → BlockAgrees now.slice block (k.first block) (k.written block)
  pub seconds : (second : ℕ) → SecondAgrees now.slice second (k.second second) (masks_of shape k second)
  pub fetching : AllByRecursion (IsFetched shape k.first) k.regs2
  pub counts1 : (block : ℕ) → k.counts1 (set1 shape block) ≡ lines_of_set (set1 shape) now.slice.lines1 block
  pub counts2 : (second : ℕ) → k.counts2 (set2 shape second) ≡ lines_of_set (set2 shape) now.slice.lines2 second
  pub sorted1 : T (is_sorted nat_cmp now.slice.lines1)  -- lines stand by rising blocks
  pub sorted2 : T (is_sorted nat_cmp now.slice.lines2)

-- ---- laws

-- the first rule of the bank that an event of a log breaks, and the state after an event
abbrev pub rule_broken : Shape → Local → ℕ → ℕ → Event → Option Rule
rule_broken shape now log bank event = first_failing OfBank
    (rules_of shape (carries shape now.memory now.slice event) now.busy now.slice log bank event)

abbrev pub after_event : Shape → Local → ℕ → Event → Local
after_event shape now log event = record {
  busy = now.busy;
  memory = memory_after now.memory now.slice event;
  slice = slice_after shape (value_at now.memory (accepts now.slice event)) (replies_at now.slice event) now.slice log
      event;
}

-- An event breaks the same rule first.
abbrev pub BreaksAlike : Event → Type 0
BreaksAlike event = (shape : Shape) (now : Local) (k : Known) (log bank : ℕ) → EachStands shape now.slice →
    Agrees shape now k
    → rule_broken shape now log bank event ≡ known_broken shape k log event

-- After an event that breaks none, what is known is the state after it.
abbrev pub GoesOnAlike : Event → Type 0
GoesOnAlike event = (shape : Shape) (now : Local) (k : Known) (log : ℕ) → EachStands shape now.slice →
    Agrees shape now k
    → known_broken shape k log event ≡ None → Agrees shape (after_event shape now log event)
    (known_after shape k log event)
