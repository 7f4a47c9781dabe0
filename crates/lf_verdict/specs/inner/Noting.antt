-- Whether a part broke, as it is noted while the records come.
use Rattle.std.specs.Prelude.{◌≡◌, ℕ, ◌+◌, ◌<◌, ◌^◌, List, length, Some, None}
use Rattle.lf_rules.specs.declared.shape.Shape.{Shape}
use Rattle.lf_rules.specs.declared.event.Record.{Record}
use Rattle.lf_rules.specs.declared.rule.Rule.{Rule}
use Rattle.lf_rules.specs.Address.{FlatMemory}
use Rattle.lf_codec.specs.Layout.{record_bytes}
use Rattle.lf_verdict.specs.declared.session.breaking.PartFault.{PartFault}
use Rattle.lf_verdict.specs.declared.session.breaking.PartFault.TheVariants.{Double, Port, Bank}
use Rattle.lf_verdict.specs.declared.session.breaking.Broken.{Broken}
use Rattle.lf_verdict.specs.declared.session.breaking.Broken.TheVariants as broken
use Rattle.lf_verdict.specs.declared.session.breaking.Watch.{Watch}
use Rattle.lf_verdict.specs.declared.session.breaking.Watch.TheVariants.{Whole}
use Rattle.lf_verdict.specs.Breaking.{IsFaultOfPart, IsFirstBreak}

-- this port is not at fault
abbrev pub IsPortWhole : Shape → FlatMemory → List Record → ℕ → Type 0
IsPortWhole shape memory records port = (at : ℕ) (rule : Rule) →
    ¬ IsFaultOfPart shape memory records (Port port at rule)

-- this bank is not at fault, neither by a rule nor by its numbers
pub record IsBankWhole (shape : Shape) (memory : FlatMemory) (records : List Record) (bank : ℕ) : Type 0 where
  pub numbers : (k : ℕ) → ¬ IsFaultOfPart shape memory records (Double bank k)
  pub rules : (number : ℕ) (rule : Rule) → ¬ IsFaultOfPart shape memory records (Bank bank number rule)

-- the fault is one of this port
abbrev pub IsOfPort : ℕ → PartFault → Type 0
IsOfPort port (Port port' at rule) = port' ≡ port
IsOfPort port _ = ⊥

-- The fault is one of this bank: a rule that it broke, or otherwise the least number that came twice.
abbrev pub IsFirstOfBank : Shape → FlatMemory → List Record → ℕ → PartFault → Type 0
IsFirstOfBank shape memory records bank (Bank bank' number rule) = bank' ≡ bank
IsFirstOfBank shape memory records bank (Double bank' k) = (bank' ≡ bank) ×
    ((number : ℕ) (rule : Rule) → ¬ IsFaultOfPart shape memory records (Bank bank number rule)) ×
    ((k' : ℕ) → k' < k → ¬ IsFaultOfPart shape memory records (Double bank k'))
IsFirstOfBank shape memory records bank (Port port at rule) = ⊥

-- ... and no lower bank is at fault
pub record IsOfLowestBank (shape : Shape) (memory : FlatMemory) (records : List Record) (fault : PartFault) :
    Type 0 where
  pub bank : ℕ
  pub of_bank : IsFirstOfBank shape memory records bank fault
  pub below : (b : ℕ) → b < bank → IsBankWhole shape memory records b

-- A part is at fault, and the record that is told is the first upon which one was.
abbrev pub IsPartBroken : ℕ → Shape → FlatMemory → List Record → Broken → Type 0
IsPartBroken start shape memory records (broken.Part fault None) = IsFaultOfPart shape memory records fault
IsPartBroken start shape memory records (broken.Part fault (Some upon)) =
    IsFirstBreak start shape memory records fault upon
IsPartBroken start shape memory records (broken.Header field) = ⊥

-- the record is told
abbrev pub NamesRecord : Broken → Type 0
NamesRecord (broken.Part fault None) = ⊥
NamesRecord _ = Unit {0}

-- While no part broke, the offset behind the record is below 2^64.
abbrev pub EndsInRange : Watch → Record → Type 0
EndsInRange (Whole next) item = next + length (record_bytes item) < 2 ^ 64
EndsInRange _ item = Unit {0}
