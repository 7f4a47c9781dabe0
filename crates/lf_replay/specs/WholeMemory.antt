-- A bank's records over the bank's blocks of the memory, and over all of it.
use Rattle.std.specs.Prelude.{◌≡◌, ◌↔◌, ℕ, List}
use Rattle.std.specs.List.{AllByRecursion}
use Rattle.lf_rules.specs.declared.shape.Shape.{Shape}
use Rattle.lf_rules.specs.declared.event.Record.{Record}
use Rattle.lf_rules.specs.declared.rule.Rule.{Rule}
use Rattle.lf_rules.specs.Address.{FlatMemory}
use Rattle.lf_rules.specs.Fits.{Fits}
use Rattle.lf_rules.specs.Outcomes.{first_local}
use Rattle.lf_rules.specs.Run.{IsSliceRun, BreaksAt}
use Rattle.lf_rules.specs.Table.{OfBank}
use Rattle.bank_state.specs.Bytes.{bank_part}

-- records of the bank that a trace of the shape may have
pub record AreOfBank (shape : Shape) (bank : ℕ) (rs : List Record) : Type 0 where
  pub fit : AllByRecursion (Fits shape) rs
  pub named : AllByRecursion (λ r. r.bank ≡ bank) rs

-- They are a run over the bank's blocks exactly where they are one over the whole memory,
abbrev pub BankPartsRunAlike : Type 0
BankPartsRunAlike = (shape : Shape) (memory : FlatMemory) (bank : ℕ) (rs : List Record) → AreOfBank shape bank rs
    → IsSliceRun shape (bank_part shape bank memory) rs ↔ IsSliceRun shape memory rs

-- and otherwise break the same rule first at the same place.
abbrev pub BankPartsBreakAlike : Type 0
BankPartsBreakAlike = (shape : Shape) (memory : FlatMemory) (bank : ℕ) (rs : List Record) → AreOfBank shape bank rs →
    (n : ℕ) (rule : Rule)
    → BreaksAt OfBank shape (first_local (bank_part shape bank memory)) rs n rule ↔
    BreaksAt OfBank shape (first_local memory) rs n rule
