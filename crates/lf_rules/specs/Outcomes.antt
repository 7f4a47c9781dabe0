-- What the replay of one port or of one bank answers.
use Rattle.std.specs.Prelude.{◌≡◌, ◌⊎◌, ℕ, List}
use Rattle.lf_rules.specs.declared.shape.Shape.{Shape}
use Rattle.lf_rules.specs.declared.event.Record.{Record}
use Rattle.lf_rules.specs.declared.rule.Rule.{Rule}
use Rattle.lf_rules.specs.declared.outcome.Outcome.{Outcome}
use Rattle.lf_rules.specs.declared.outcome.Outcome.TheVariants.{Passed, Broken, NoMemory}
use Rattle.lf_rules.specs.Address.{FlatMemory}
use Rattle.lf_rules.specs.State.{Local, opening, seen_by}
use Rattle.lf_rules.specs.Table.{Side, OfPort, OfBank}
use Rattle.lf_rules.specs.Run.{IsRunOf, BreaksAt}

-- what a component sees before its first record
abbrev pub first_local : FlatMemory → Local
first_local memory = seen_by 0 0 (opening memory)

-- The records are a run of the side, or the outcome names the first that does not continue one.
-- Out of memory says nothing.
abbrev pub IsOutcomeOf : Side → Shape → FlatMemory → List Record → Outcome → Type 0
IsOutcomeOf side shape memory rs Passed = IsRunOf side shape (first_local memory) rs
IsOutcomeOf side shape memory rs (Broken n rule) = BreaksAt side shape (first_local memory) rs n rule
IsOutcomeOf side shape memory rs NoMemory = Unit {0}

-- the outcome of a bank's records in the order of their numbers
abbrev pub IsBankOutcome : Shape → FlatMemory → List Record → Outcome → Type 0
IsBankOutcome shape memory rs outcome = IsOutcomeOf OfBank shape memory rs outcome

-- the outcome of a port's log; its rules look at no memory
abbrev pub IsPortOutcome : Shape → List Record → Outcome → Type 0
IsPortOutcome shape rs outcome = (memory : FlatMemory) → IsOutcomeOf OfPort shape memory rs outcome

-- one list of records has one outcome, out of memory aside
abbrev pub OutcomesAreOne : Type 0
OutcomesAreOne = (side : Side) (shape : Shape) (memory : FlatMemory) (rs : List Record) (a b : Outcome) →
    IsOutcomeOf side shape memory rs a → IsOutcomeOf side shape memory rs b → (a ≡ NoMemory → ⊥) →
    (b ≡ NoMemory → ⊥) → a ≡ b

-- and each has one: it is a run, or it breaks somewhere
abbrev pub RunsOrBreaks : Type 0
RunsOrBreaks = (side : Side) (shape : Shape) (memory : FlatMemory) (rs : List Record) →
    IsRunOf side shape (first_local memory) rs ⊎ ((n : ℕ) × (rule : Rule) ×
    BreaksAt side shape (first_local memory) rs n rule)
