-- The state that a bank shows.
use Rattle.std.specs.Prelude.{ℕ, ◌<◌}
use Rattle.std.specs.List.{AllByRecursion}
use Rattle.lf_rules.specs.declared.shape.Shape.{Shape}
use Rattle.lf_rules.specs.InRange.{IsShape}
use Rattle.lf_rules.specs.State.{Slice, Local}
use Rattle.bank_events.specs.Agrees.{Agrees}
use Rattle.bank_events.specs.Apart.{EachStands}
use Rattle.bank_events.specs.BankView.{BankView, AreWaiting, known_of}

-- The bank shows this state: its registers hold targets of the requests that wait in them, and what it knows is this
-- state.
pub record Shows (view : BankView) (now : Local) : Type 0 where
  pub registers : AreWaiting view now.slice.waiting now.slice.regs2
  pub known : Agrees view.shape now (known_of view now.slice.waiting now.slice.regs2)

-- each queued request has a tag of the shape
abbrev pub AreTagged : Shape → Slice → Type 0
AreTagged shape slice = (port : ℕ) → AllByRecursion (λ request. request.tag < shape.tags) (slice.queue port)

-- what each state that a run reaches meets
pub record IsReached (shape : Shape) (now : Local) : Type 0 where
  pub in_range : IsShape shape
  pub stands : EachStands shape now.slice
  pub tagged : AreTagged shape now.slice

-- The bank shows some state that a run may reach.
pub record ShowsReached (view : BankView) : Type 0 where
  pub now : Local
  pub shows : Shows view now
  pub reached : IsReached view.shape now
