-- Faults of a part of the records so far, and upon which record the first of them came.
use Rattle.std.specs.Prelude.{◌≡◌, ◌⊎◌, ℕ, ◌+◌, ◌<◌, ◌≤◌, List, [], ◌∷◌, ◌++◌, length, slice_get}
use Rattle.std.specs.List.{flat_map}
use Rattle.lf_rules.specs.declared.shape.Shape.{Shape}
use Rattle.lf_rules.specs.declared.event.Record.{Record}
use Rattle.lf_rules.specs.declared.rule.Rule.{Rule}
use Rattle.lf_rules.specs.Address.{FlatMemory}
use Rattle.lf_rules.specs.Fits.{Bytes}
use Rattle.lf_rules.specs.Numbers.{numbers_of, IsDouble}
use Rattle.lf_rules.specs.Outcomes.{first_local}
use Rattle.lf_rules.specs.Run.{of_log, of_bank, BreaksAt}
use Rattle.lf_rules.specs.Table.{OfPort, OfBank}
use Rattle.lf_logs.specs.Reordering.{first_with}
use Rattle.lf_codec.specs.declared.header.Header.{Header}
use Rattle.lf_codec.specs.Layout.{header_bytes, memory_bytes, record_bytes}
use Rattle.lf_verdict.specs.declared.session.breaking.PartFault.{PartFault}
use Rattle.lf_verdict.specs.declared.session.breaking.PartFault.TheVariants.{Double, Port, Bank}
use Rattle.lf_verdict.specs.declared.session.breaking.Upon.{Upon}

-- Of the records that came, these carry the numbers 0, 1, 2, .. and each is the first that came with its number.
abbrev pub AreFirst : List Record → List Record → Type 0
AreFirst came gave = (k : ℕ) → k < length gave → slice_get gave k ≡ first_with k came

-- The bank's records that came begin with these, in the order of their numbers, and they break the rule there.
pub record BankBreaks (shape : Shape) (memory : FlatMemory) (records : List Record) (bank number : ℕ) (rule : Rule) :
    Type 0 where
  pub is_bank : bank < shape.banks
  pub gave : List Record
  pub first : AreFirst (of_bank bank records) gave
  pub breaks : BreaksAt OfBank shape (first_local memory) gave number rule

-- The fault is one of a part of the records that came.
abbrev pub IsFaultOfPart : Shape → FlatMemory → List Record → PartFault → Type 0
IsFaultOfPart shape memory records (Double bank k) = (bank < shape.banks) ×
    IsDouble (numbers_of (of_bank bank records)) k
IsFaultOfPart shape memory records (Port port at rule) = (port < shape.ports) ×
    BreaksAt OfPort shape (first_local memory) (of_log port records) at rule
IsFaultOfPart shape memory records (Bank bank number rule) = BankBreaks shape memory records bank number rule

-- Ports are named before banks, and lower ones first; of a bank a rule before a double number, and the least number.
abbrev pub IsNamedBefore : PartFault → PartFault → Type 0
IsNamedBefore (Port port at rule) (Port port' at' rule') = port < port'
IsNamedBefore (Port port at rule) (Bank bank number rule') = Unit {0}
IsNamedBefore (Port port at rule) (Double bank k) = Unit {0}
IsNamedBefore (Bank bank number rule) (Port port at rule') = ⊥
IsNamedBefore (Bank bank number rule) (Bank bank' number' rule') = bank < bank'
IsNamedBefore (Bank bank number rule) (Double bank' k) = bank ≤ bank'
IsNamedBefore (Double bank k) (Port port at rule) = ⊥
IsNamedBefore (Double bank k) (Bank bank' number rule) = bank < bank'
IsNamedBefore (Double bank k) (Double bank' k') = (bank < bank') ⊎ ((bank ≡ bank') × (k < k'))

-- The fault is one of a part, and none that is named before it is.
pub record IsNamedFault (shape : Shape) (memory : FlatMemory) (records : List Record) (fault : PartFault) : Type 0 where
  pub is : IsFaultOfPart shape memory records fault
  pub first : (other : PartFault) → IsNamedBefore other fault → ¬ IsFaultOfPart shape memory records other

-- no part of the records that came is at fault
abbrev pub NoneBroke : Shape → FlatMemory → List Record → Type 0
NoneBroke shape memory records = (fault : PartFault) → ¬ IsFaultOfPart shape memory records fault

-- the offset at which the first record begins, behind the header and the memory
abbrev pub first_offset : Header → List (ℕ × Bytes) → ℕ
first_offset header memory = length (header_bytes header ++ flat_map memory_bytes memory)

-- the offset at which the record behind these begins, where the first of them begins at `start`
abbrev pub offset_after : ℕ → List Record → ℕ
offset_after start records = start + length (flat_map record_bytes records)

-- The record comes next: it will stand at this place of its log, and begin at this offset.
pub record IsPlaceOf (start : ℕ) (before : List Record) (item : Record) (upon : Upon) : Type 0 where
  pub log : upon.log ≡ item.log
  pub at : upon.at ≡ length (of_log item.log before)
  pub offset : upon.offset ≡ offset_after start before

-- The record at this place is the first upon which a part broke, and of the faults that broke upon it this one is
-- named.
pub record IsFirstBreak (start : ℕ) (shape : Shape) (memory : FlatMemory) (records : List Record) (fault : PartFault)
    (upon : Upon) : Type 0 where
  pub before : List Record
  pub item : Record
  pub after : List Record
  pub are : records ≡ before ++ item ∷ after
  pub place : IsPlaceOf start before item upon
  pub whole : NoneBroke shape memory before
  pub broke : IsNamedFault shape memory (before ++ item ∷ []) fault
