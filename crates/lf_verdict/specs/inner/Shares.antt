-- The parts of a trace in two shares: the entries of the logs with the ports, and the banks.
use Rattle.std.specs.Prelude.{◌≡◌, ◌≢◌, Bool, false, ℕ, ◌<◌, ◌++◌, List, length, slice_index_or, OnOk, IfOk, Result}
use Rattle.std.specs.List.{AllByRecursion}
use Rattle.lf_rules.specs.declared.shape.Shape.{Shape}
use Rattle.lf_rules.specs.declared.event.Record.{Record}
use Rattle.lf_rules.specs.declared.outcome.Outcome.TheVariants as outcomes
use Rattle.lf_rules.specs.Address.{FlatMemory}
use Rattle.lf_rules.specs.Fits.{Fits}
use Rattle.lf_rules.specs.Run.{of_bank}
use Rattle.lf_replay.specs.Bytes.{bank_part}
use Rattle.lf_verdict.specs.declared.session.breaking.Watch.TheVariants.{Unknown}
use Rattle.lf_verdict.specs.declared.session.share.Share.{Share}
use Rattle.lf_verdict.specs.declared.session.share.Share.TheVariants as shares
use Rattle.lf_verdict.specs.declared.session.share.ShareKind.{ShareKind}
use Rattle.lf_verdict.specs.declared.session.share.ShareKind.TheVariants as kinds
use Rattle.lf_verdict.specs.declared.session.standing.Standing.{Standing}
use Rattle.lf_verdict.specs.declared.session.standing.bank_judge.BankJudge.{BankJudge}
use Rattle.lf_verdict.specs.inner.Coming.{MayAllCome}
use Rattle.lf_verdict.specs.Standing.{IsBankSettled, AreEntered, StandsAfterAll}

-- ---- one bank

-- The bank was judged on these of its records, unless its outcome says that memory ran out.
abbrev pub IsBankUnlessOut : Shape → FlatMemory → ℕ → List Record → BankJudge → Type 0
IsBankUnlessOut shape memory bank came judge = judge.outcome ≢ outcomes.NoMemory
    → (gave : List Record) × IsBankSettled shape memory bank came gave judge

-- It can be judged on those of the records that are its own.
pub record CanTakeOwn (bank : ℕ) (records : List Record) (judge : BankJudge) : Type 0 where
  pub shape : Shape
  pub memory : FlatMemory
  pub came : List Record
  pub gave : List Record
  pub fit : AllByRecursion (Fits shape) records
  pub settled : IsBankSettled shape memory bank came gave judge

-- It was, unless memory ran out.
abbrev pub TakesOwn : {F : Type 0} → ℕ → List Record → BankJudge → Result (Unit {0}) F → BankJudge → Type 0
TakesOwn bank records before result after = (shape : Shape) (memory : FlatMemory) (came gave : List Record) →
    AllByRecursion (Fits shape) records
    → IsBankSettled shape memory bank came gave before
    → OnOk result ((more : List Record) × IsBankSettled shape memory bank (came ++ of_bank bank records) more after)

-- The same, where memory may have run out before.
pub record CanTakeAll (bank : ℕ) (records : List Record) (judge : BankJudge) : Type 0 where
  pub shape : Shape
  pub memory : FlatMemory
  pub came : List Record
  pub fit : AllByRecursion (Fits shape) records
  pub judged : IsBankUnlessOut shape memory bank came judge

-- It was, unless the outcome says that memory ran out.
abbrev pub TakesAll : ℕ → List Record → BankJudge → BankJudge → Type 0
TakesAll bank records before after = (shape : Shape) (memory : FlatMemory) (came : List Record) →
    AllByRecursion (Fits shape) records
    → IsBankUnlessOut shape memory bank came before
    → IsBankUnlessOut shape memory bank (came ++ of_bank bank records) after

-- Each of the banks can be judged on those of the records that are its own.
abbrev pub CanAllTake : List Record → List BankJudge → Type 0
CanAllTake records judges = (bank : ℕ) (d : BankJudge) → bank < length judges →
    CanTakeAll bank records (slice_index_or judges bank d)

-- Each was, unless memory ran out for it.
pub record AllTake (records : List Record) (before after : List BankJudge) : Type 0 where
  pub each : (bank : ℕ) (d : BankJudge) → bank < length before →
      TakesAll bank records (slice_index_or before bank d) (slice_index_or after bank d)

-- ---- a share

abbrev pub kind_of : Share → ShareKind
kind_of (shares.Entries entries result) = kinds.Entries
kind_of (shares.Banks banks) = kinds.Banks

-- whether every entry is kept, of the share that has entries
abbrev pub keeps_of : Share → Bool
keeps_of (shares.Entries entries result) = entries.keeps
keeps_of (shares.Banks banks) = false

-- These are the entries, and those the banks.
pub record AreOfTheirKinds (entries banks : Share) : Type 0 where
  pub of_entries : kind_of entries ≡ kinds.Entries
  pub of_banks : kind_of banks ≡ kinds.Banks

-- All banks were judged on those of the records that are their own, but those for which memory ran out.
pub record AreBanksAt (shape : Shape) (memory : FlatMemory) (records : List Record) (banks : List BankJudge) :
    Type 0 where
  pub count : length banks ≡ shape.banks
  pub each : (bank : ℕ) (d : BankJudge) → bank < shape.banks
      → IsBankUnlessOut shape (bank_part shape bank memory) bank (of_bank bank records) (slice_index_or banks bank d)

-- The share was judged on these records of the trace, unless memory ran out.
abbrev pub IsShareAt : Shape → FlatMemory → List Record → Share → Type 0
IsShareAt shape memory records (shares.Entries entries result) = OnOk result (AreEntered shape records entries)
IsShareAt shape memory records (shares.Banks banks) = AreBanksAt shape memory records banks.items

-- It was judged on some records of a trace, and these may come next.
abbrev pub CanTake : List Record → Share → Type 0
CanTake records share = (shape : Shape) × ((memory : FlatMemory) × ((before : List Record) ×
    (MayAllCome shape before records × IsShareAt shape memory before share)))

-- It was judged on these records too.
pub record Takes (records : List Record) (old new : Share) : Type 0 where
  pub kind : kind_of new ≡ kind_of old
  pub keeps : keeps_of new ≡ keeps_of old
  pub judged : (shape : Shape) (memory : FlatMemory) (before : List Record) → MayAllCome shape before records →
      IsShareAt shape memory before old → IsShareAt shape memory (before ++ records) new

-- Where the parts stood so and these records came next, the share of this kind was judged on them too.
pub record IsShareAfter (start : Standing) (records : List Record) (kind : ShareKind) (share : Share) : Type 0 where
  pub is : kind_of share ≡ kind
  -- entries are kept as before
  pub keeps : kind ≡ kinds.Entries → keeps_of share ≡ start.entries.keeps
  pub judged : (shape : Shape) (memory : FlatMemory) (before : List Record) → StandsAfterAll shape memory before start
      → MayAllCome shape before records → IsShareAt shape memory (before ++ records) share

-- ---- both shares

-- The parts stood so after some records of a trace, and these may come next.
pub record MayFollow (start : Standing) (records : List Record) : Type 0 where
  pub shape : Shape
  pub memory : FlatMemory
  pub before : List Record
  pub stands : StandsAfterAll shape memory before start
  pub may : MayAllCome shape before records

-- They stand so after these records too. It is not known upon which of them a part broke.
pub record StandsAfterNext (start : Standing) (records : List Record) (end : Standing) : Type 0 where
  pub unknown : end.watch ≡ Unknown
  pub keeps : end.entries.keeps ≡ start.entries.keeps
  pub stands : (shape : Shape) (memory : FlatMemory) (before : List Record) → StandsAfterAll shape memory before start
      → MayAllCome shape before records → StandsAfterAll shape memory (before ++ records) end

-- ... unless memory ran out
abbrev pub IsJudged : {F : Type 0} → Standing → List Record → Result Standing F → Type 0
IsJudged start records result = IfOk result (StandsAfterNext start records)
