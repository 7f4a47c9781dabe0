-- No two registers hold one block, unless the organisation lets them.
use Rattle.std.specs.Prelude.{◌≡◌, ℕ, true, false, List, [], ◌∷◌, take}
use Rattle.lf_rules.specs.declared.shape.Shape.{Shape}
use Rattle.lf_rules.specs.declared.event.Record.{Record}
use Rattle.lf_rules.specs.Address.{FlatMemory}
use Rattle.lf_rules.specs.Registers.{Held, shares, holds_in}
use Rattle.lf_rules.specs.State.{Slice, State, opening}
use Rattle.lf_rules.specs.Run.{state_after}

abbrev pub HoldsOnce : {T : Type 0} → List (Held T) → Type 0
HoldsOnce held = (block register other : ℕ) → holds_in held register block ≡ true → holds_in held other block ≡ true →
    register ≡ other

pub record KeepsApart (shape : Shape) (slice : Slice) : Type 0 where
  pub level1 : shares shape.level1.organisation ≡ false → HoldsOnce slice.waiting
  pub level2 : shares shape.level2.organisation ≡ false → HoldsOnce slice.regs2

abbrev pub state_after_all : Shape → State → List Record → State
state_after_all shape state [] = state
state_after_all shape state (r ∷ rs) = state_after_all shape (state_after shape state r) rs

-- so it is after every prefix
abbrev pub IsSharing : Shape → FlatMemory → List Record → Type 0
IsSharing shape memory rs = (n bank : ℕ) → KeepsApart shape
    ((state_after_all shape (opening memory) (take n rs)).slice bank)
