-- A bank, as contracts see it.
use Rattle.std.specs.Prelude.{◌≡◌, ℕ, ◌<◌, true, List, length, slice_index}
use Rattle.std.specs.List.{AllByRecursion}
use Rattle.lf_rules.specs.declared.shape.Shape.{Shape}
use Rattle.lf_rules.specs.InRange.{IsShape}
use Rattle.lf_rules.specs.Registers.{Held, holds, holds_in}
use Rattle.lf_rules.specs.State.{Request, Missed, Ready, Asked}
use Rattle.lf_rules.specs.Table.{destinations, destinations2}
use Rattle.lf_levels.specs.SetsView.{SetsView}
use Rattle.lf_mshr.specs.Alike.{AreAlike}
use Rattle.lf_mshr.specs.RegisterFile.{RegisterFile}
use Rattle.lf_mshr.specs.declared.level_one.Request1.{Request1}
use Rattle.lf_mshr.specs.declared.level_two.Request2.{Request2}
use Rattle.bank_state.specs.Queues.{queue_at}
use Rattle.bank_cells.specs.Cells.{CellsView, first_at, written_at, dirty_at, second_at, memory_at}
use Rattle.bank_events.specs.Apart.{AreHome}
use Rattle.bank_events.specs.Known.{Known, is_in_flight, register_of, is_second_in_flight, second_register_of}
use Rattle.bank_events.specs.Targets.{IsTarget1, IsTarget2}

pub record BankView : Type 0 where
  pub shape : Shape
  pub cells : CellsView
  pub queues : List (List Request)  -- one for each port
  pub counts1 : List ℕ  -- how many lines each set of level one has
  pub counts2 : List ℕ
  pub waiting : RegisterFile Request1  -- the level-one registers
  pub regs2 : RegisterFile Request2
  pub ready : List Ready

-- a register file of the shape's level one
pub record IsFile1 {T : Type 0} (shape : Shape) (file : RegisterFile T) : Type 0 where
  pub organisation : file.organisation ≡ shape.level1.organisation
  pub destinations : file.destinations ≡ destinations shape

-- a register file of its level two
pub record IsFile2 {T : Type 0} (shape : Shape) (file : RegisterFile T) : Type 0 where
  pub organisation : file.organisation ≡ shape.level2.organisation
  pub destinations : file.destinations ≡ destinations2 shape

-- there is a queue for each port, a count for each set, and the registers are those of the shape's levels
pub record IsFramed (view : BankView) : Type 0 where
  pub in_range : IsShape view.shape
  pub ports : length view.queues ≡ view.shape.ports
  pub factor : view.cells.factor ≡ view.shape.factor
  pub sets1 : length view.counts1 ≡ view.shape.level1.sets
  pub sets2 : length view.counts2 ≡ view.shape.level2.sets
  pub file1 : IsFile1 view.shape view.waiting
  pub file2 : IsFile2 view.shape view.regs2

-- so many sets of a level of a bank of the shape
abbrev pub sets_of : Shape → ℕ → SetsView
sets_of shape count = record { banks = shape.banks; factor = shape.factor; count = count }

-- a bank that is framed so, with the sets of its levels
pub record IsKept (view : BankView) (one two : SetsView) : Type 0 where
  pub framed : IsFramed view
  pub sets1 : one ≡ sets_of view.shape view.shape.level1.sets
  pub sets2 : two ≡ sets_of view.shape view.shape.level2.sets

-- what the bank knows, where these requests wait in its registers
abbrev pub known_of : BankView → List (Held Missed) → List (Held Asked) → Known
known_of view waiting regs2 = record {
  queue = queue_at view.queues;
  ready = view.ready;
  memory = memory_at view.cells;
  first = first_at view.cells;
  written = written_at view.cells;
  dirty = dirty_at view.cells;
  second = second_at view.cells;
  counts1 = slice_index view.counts1;
  counts2 = slice_index view.counts2;
  waiting = waiting;
  regs2 = regs2;
}

-- these requests wait in the registers, in the order of acceptance
pub record AreWaiting (view : BankView) (waiting : List (Held Missed)) (regs2 : List (Held Asked)) : Type 0 where
  pub level1 : AreAlike (IsTarget1 view.shape) view.waiting.held waiting
  pub level2 : AreAlike (IsTarget2 view.shape) view.regs2.held regs2

-- A block is in flight where a register holds it, that of its primary miss among them.
-- Each level-two register holds the second-level block of its target's block.
pub record AreHeld (shape : Shape) (k : Known) : Type 0 where
  pub waits : (block : ℕ) → holds k.waiting block ≡ is_in_flight (k.first block)
  pub primary : (block : ℕ) → is_in_flight (k.first block) ≡ true → holds_in k.waiting (register_of (k.first block))
      block ≡ true
  pub fetched : (second : ℕ) → holds k.regs2 second ≡ is_second_in_flight (k.second second)
  pub second_primary : (second : ℕ) → is_second_in_flight (k.second second) ≡ true →
      holds_in k.regs2 (second_register_of (k.second second)) second ≡ true
  pub home : AreHome shape k.regs2

-- The queued requests have tags of the shape, and some requests wait in the registers, of which the blocks know.
pub record IsSteady (view : BankView) : Type 0 where
  pub tagged : (port : ℕ) → AllByRecursion (λ request. request.tag < view.shape.tags) (queue_at view.queues port)
  pub now_waiting : List (Held Missed)
  pub now_regs2 : List (Held Asked)
  pub alike : AreWaiting view now_waiting now_regs2
  pub held : AreHeld view.shape (known_of view now_waiting now_regs2)
