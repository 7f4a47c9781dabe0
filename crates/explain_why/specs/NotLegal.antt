-- Why a trace is not legal.
use Rattle.std.specs.Prelude.{◌≡◌, ℕ, Bool, true, false, ◌&&◌, ◌==◌, List, [], ◌∷◌, ◌++◌, codes, Option, Some, None}
use Rattle.lf_rules.specs.declared.shape.Shape.{Shape}
use Rattle.lf_rules.specs.declared.event.Record.{Record}
use Rattle.lf_rules.specs.Fits.{Bytes}
use Rattle.explain_lines.specs.Marks.{Beside, besides, besides_of}
use Rattle.lf_verdict.specs.declared.answer.Fault.{Fault}
use Rattle.lf_verdict.specs.declared.answer.Fault.TheVariants as faults
use Rattle.lf_verdict.specs.declared.session.breaking.PartFault.{PartFault}
use Rattle.lf_verdict.specs.declared.session.breaking.PartFault.TheVariants as parts
use Rattle.lf_verdict.specs.declared.session.breaking.Broken.{Broken}
use Rattle.lf_verdict.specs.declared.session.breaking.Broken.TheVariants as broken
use Rattle.lf_verdict.specs.declared.session.breaking.Upon.{Upon}
use Rattle.lf_verdict.specs.Breaking.{first_offset}
use Rattle.lf_verdict.specs.Final.{IsToldFirst}
use Rattle.lf_verdict.specs.Legal.{IsTraceFor}
use Rattle.lf_verdict.specs.Text.{upon_text}
use Rattle.explain_why.specs.declared.cause.Cause.{Cause}
use Rattle.explain_why.specs.declared.not_legal.NotLegal.{NotLegal}
use Rattle.explain_why.specs.Cause.{HasBankOf, IsCause, cause_text}

-- ---- what broke first

-- a fault of a part, as a verdict names it
abbrev pub as_fault : PartFault → Fault
as_fault (parts.Double bank k) = faults.Double bank k
as_fault (parts.Port port at rule) = faults.Port port at rule
as_fault (parts.Bank bank number rule) = faults.Bank bank number rule

-- whether the verdict names the place of that fault
abbrev pub names_place : Fault → PartFault → Bool
names_place (faults.Double bank k) (parts.Double bank' k') = bank == bank' && k == k'
names_place (faults.Port port at rule) (parts.Port port' at' rule') = port == port' && at == at'
names_place (faults.Bank bank number rule) (parts.Bank bank' number' rule') = bank == bank' && number == number'
names_place _ _ = false

-- the fault that is told: that of the verdict, or where it is asked for what broke first
abbrev pub told_fault : Bool → Fault → Option Broken → Fault
told_fault true fault (Some (broken.Part part upon)) = as_fault part
told_fault _ fault earliest = fault

-- the record upon which something broke first
abbrev pub upon_of : Option Broken → Option Upon
upon_of (Some (broken.Part part upon)) = upon
upon_of _ = None

-- what broke is of a bank of the shape's, where it is of one
abbrev pub HasBankOfFirst : Shape → Option Broken → Type 0
HasBankOfFirst shape (Some (broken.Part part upon)) = HasBankOf shape (as_fault part)
HasBankOfFirst shape _ = Unit {0}

abbrev pub IsSomeCause : Shape → List (ℕ × Bytes) → List Record → ℕ → Fault → Option Cause → Type 0
IsSomeCause shape memory rs most fault (Some cause) = IsCause shape memory rs most fault cause
IsSomeCause shape memory rs most fault None = ⊥

abbrev pub IsCauseUnless : Bool → Shape → List (ℕ × Bytes) → List Record → ℕ → Fault → Option Cause → Type 0
IsCauseUnless true shape memory rs most fault cause = cause ≡ None
IsCauseUnless false shape memory rs most fault cause = IsSomeCause shape memory rs most fault cause

-- Where something broke first whose place the fault does not name, that is why.
abbrev pub IsFirstCause : Shape → List (ℕ × Bytes) → List Record → ℕ → Fault → Option Broken → Option Cause → Type 0
IsFirstCause shape memory rs most fault (Some (broken.Part part upon)) cause =
    IsCauseUnless (names_place fault part) shape memory rs most (as_fault part) cause
IsFirstCause shape memory rs most fault _ cause = cause ≡ None

-- ---- why a trace is not legal

-- The bytes are a trace for the shape.
pub record IsSomeTraceFor (shape : Shape) (bytes : List ℕ) : Type 0 where
  pub memory : List (ℕ × Bytes)
  pub logs : List (List Record)
  pub trace : IsTraceFor shape bytes memory logs

-- It has the records of the trace in the bytes, the offset and the time of each, why the fault stands among them, and
-- of what broke first the record upon which it did, and why where the fault is another one. A time is told by a log and
-- a place in it.
pub record IsNotLegal (shape : Shape) (bytes : List ℕ) (time : ℕ → ℕ → Option (List ℕ)) (most : ℕ) (fault : Fault)
    (earliest : Option Broken) (why : NotLegal) : Type 0 where
  pub of : IsSomeTraceFor shape bytes
  pub is_earliest : IsToldFirst shape bytes earliest
  pub records : why.records.records ≡ of.trace.records
  pub marks : besides why.marks ≡ besides_of time (first_offset of.trace.header of.memory) of.trace.records
  pub cause : IsCause shape of.memory why.records.records most fault why.fault
  pub upon : why.upon ≡ upon_of earliest
  pub first : IsFirstCause shape of.memory why.records.records most fault earliest why.first

-- ---- its text

-- the heading of what broke first, with the record upon which it did
abbrev pub first_heading : Option Upon → List ℕ
first_heading upon = 10 ∷ codes "what broke first in the trace" ++ upon_text upon ++ codes ":" ++ 10 ∷ []

-- what broke first, behind that heading
abbrev pub first_text : List Record → List Beside → Option Upon → Option Cause → List ℕ
first_text rs marks upon None = []
first_text rs marks upon (Some cause) = first_heading upon ++ cause_text rs marks cause

abbrev pub not_legal_text : NotLegal → List ℕ
not_legal_text why =
    let marks = besides why.marks in
    cause_text why.records.records marks why.fault ++ first_text why.records.records marks why.upon why.first
