-- A bank that takes its records one at a time, and judges each in its turn.
use Rattle.std.specs.Prelude.{◌≡◌, ℕ, ◌++◌, List, [], ◌∷◌, Result, OnOk}
use Rattle.lf_rules.specs.declared.shape.Shape.{Shape}
use Rattle.lf_rules.specs.declared.event.Record.{Record}
use Rattle.lf_rules.specs.Address.{FlatMemory}
use Rattle.lf_rules.specs.Fits.{Fits}
use Rattle.lf_verdict.specs.declared.session.standing.bank_judge.BankJudge.{BankJudge}
use Rattle.lf_verdict.specs.Standing.{IsBankJudged, IsBankSettled}

-- The bank was judged on some of the records that came.
pub record CanSettle (judge : BankJudge) : Type 0 where
  pub shape : Shape
  pub memory : FlatMemory
  pub bank : ℕ
  pub came : List Record
  pub gave : List Record
  pub judged : IsBankJudged shape memory bank came gave judge

-- It was judged on all whose turn has come, unless memory ran out.
abbrev pub Settles : {F : Type 0} → BankJudge → Result (Unit {0}) F → BankJudge → Type 0
Settles before result after = (shape : Shape) (memory : FlatMemory) (bank : ℕ) (came gave : List Record) →
    IsBankJudged shape memory bank came gave before
    → OnOk result ((more : List Record) × IsBankSettled shape memory bank came more after)

-- The record is one of the bank, which was judged on all whose turn has come.
pub record CanTake (item : Record) (judge : BankJudge) : Type 0 where
  pub shape : Shape
  pub memory : FlatMemory
  pub bank : ℕ
  pub came : List Record
  pub gave : List Record
  pub fits : Fits shape item
  pub named : item.bank ≡ bank
  pub settled : IsBankSettled shape memory bank came gave judge

-- It is judged so with this record too, unless memory ran out.
abbrev pub TakesNext : {F : Type 0} → Record → BankJudge → Result (Unit {0}) F → BankJudge → Type 0
TakesNext item before result after = (shape : Shape) (memory : FlatMemory) (bank : ℕ) (came gave : List Record) →
    Fits shape item → item.bank ≡ bank
    → IsBankSettled shape memory bank came gave before
    → OnOk result ((more : List Record) × IsBankSettled shape memory bank (came ++ item ∷ []) more after)
