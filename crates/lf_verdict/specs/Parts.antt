-- The parts of a trace, each judged by itself.
use Rattle.std.specs.Prelude.{ℕ, ◌<◌, List}
use Rattle.lf_rules.specs.declared.shape.Shape.{Shape}
use Rattle.lf_rules.specs.declared.event.Record.{Record}
use Rattle.lf_rules.specs.declared.rule.Rule.{Rule}
use Rattle.lf_rules.specs.Address.{FlatMemory}
use Rattle.lf_rules.specs.Table.{OfPort, OfBank}
use Rattle.lf_rules.specs.Run.{IsSliceRun, IsPortRun, BreaksAt}
use Rattle.lf_rules.specs.Order.{log_at}
use Rattle.lf_rules.specs.Numbers.{bank_numbers, IsWhole, IsNumbered, IsFineBelow}
use Rattle.lf_rules.specs.Outcomes.{first_local}

-- the bank's numbers are 0 to n - 1, each once
abbrev pub HasWholeNumbers : List (List Record) → ℕ → Type 0
HasWholeNumbers logs bank = IsWhole (bank_numbers logs bank)

-- the port's log is a run of the port
abbrev pub PortRuns : Shape → FlatMemory → List (List Record) → ℕ → Type 0
PortRuns shape memory logs port = IsPortRun shape memory (log_at logs port)

-- the bank's records, in the order of their numbers, are a run of the bank
pub record BankRuns (shape : Shape) (memory : FlatMemory) (logs : List (List Record)) (bank : ℕ) : Type 0 where
  pub records : List Record
  pub numbered : IsNumbered logs bank records
  pub run : IsSliceRun shape memory records

-- each bank's numbers are whole, each port runs, each bank runs
pub record PartsRun (shape : Shape) (memory : FlatMemory) (logs : List (List Record)) : Type 0 where
  pub numbers : (bank : ℕ) → bank < shape.banks → HasWholeNumbers logs bank
  pub ports : (port : ℕ) → port < shape.ports → PortRuns shape memory logs port
  pub banks : (bank : ℕ) → bank < shape.banks → BankRuns shape memory logs bank

-- The bank is the lowest whose numbers are not whole, and none of its numbers below k is missing or double.
pub record IsFirstNumber (shape : Shape) (logs : List (List Record)) (bank k : ℕ) : Type 0 where
  pub is_bank : bank < shape.banks
  pub banks_before : (b : ℕ) → b < bank → HasWholeNumbers logs b
  pub numbers_before : IsFineBelow (bank_numbers logs bank) k

-- The numbers are whole, the port is the lowest that does not run, and breaks at this place of its log with this
-- rule first.
pub record IsPortFault (shape : Shape) (memory : FlatMemory) (logs : List (List Record)) (port at : ℕ) (rule : Rule) :
    Type 0 where
  pub numbers : (bank : ℕ) → bank < shape.banks → HasWholeNumbers logs bank
  pub is_port : port < shape.ports
  pub ports_before : (p : ℕ) → p < port → PortRuns shape memory logs p
  pub breaks : BreaksAt OfPort shape (first_local memory) (log_at logs port) at rule

-- The numbers are whole, the ports run, the bank is the lowest that does not run, and breaks at this number with
-- this rule first.
pub record IsBankFault (shape : Shape) (memory : FlatMemory) (logs : List (List Record)) (bank number : ℕ)
    (rule : Rule) : Type 0 where
  pub numbers : (b : ℕ) → b < shape.banks → HasWholeNumbers logs b
  pub ports : (port : ℕ) → port < shape.ports → PortRuns shape memory logs port
  pub is_bank : bank < shape.banks
  pub banks_before : (b : ℕ) → b < bank → BankRuns shape memory logs b
  pub records : List Record
  pub numbered : IsNumbered logs bank records
  pub breaks : BreaksAt OfBank shape (first_local memory) records number rule
