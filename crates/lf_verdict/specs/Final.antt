-- Which faults stand, whatever bytes follow.
use Rattle.std.specs.Prelude.{◌≡◌, ◌⊎◌, ℕ, ◌<◌, ◌≤◌, List, ◌++◌, length, Option, Some, None, IfSome, IfNone}
use Rattle.lf_rules.specs.declared.shape.Shape.{Shape}
use Rattle.lf_rules.specs.declared.event.Record.{Record}
use Rattle.lf_rules.specs.Address.{flat_memory}
use Rattle.lf_rules.specs.Fits.{Bytes}
use Rattle.lf_codec.specs.declared.header.Header.{Header}
use Rattle.lf_codec.specs.Laws.{AreBytes}
use Rattle.lf_codec.specs.declared.fault.CodecFault.{CodecFault}
use Rattle.lf_codec.specs.Reading.{reading_of, header_of, fault_so_far}
use Rattle.lf_verdict.specs.declared.session.breaking.PartFault.{PartFault}
use Rattle.lf_verdict.specs.declared.session.breaking.PartFault.TheVariants as parts
use Rattle.lf_verdict.specs.declared.session.breaking.Upon.{Upon}
use Rattle.lf_verdict.specs.declared.session.breaking.Broken.{Broken}
use Rattle.lf_verdict.specs.declared.session.breaking.Broken.TheVariants as broken
use Rattle.lf_verdict.specs.declared.answer.HeaderField.{HeaderField}
use Rattle.lf_verdict.specs.Breaking.{first_offset, IsFaultOfPart, NoneBroke, IsFirstBreak}
use Rattle.lf_verdict.specs.Legal.{Agrees, IsTraceFor}
use Rattle.lf_verdict.specs.Named.{NoneBrokeSoFar}
use Rattle.lf_verdict.specs.Session.{IsOfAnotherHeader}
use Rattle.lf_verdict.specs.declared.answer.Fault.{Fault}
use Rattle.lf_verdict.specs.declared.answer.Fault.TheVariants.{Missing, Double, Port, Bank}
use Rattle.lf_verdict.specs.declared.answer.Outcome.{Outcome}
use Rattle.lf_verdict.specs.declared.answer.Outcome.TheVariants.{No, Refused}
use Rattle.lf_verdict.specs.declared.answer.Refusal.TheVariants as refusals
use Rattle.lf_verdict.specs.Outcome.{Differs, IsOutcomeOf}

-- The fault that is told of the whole is the one that was found, or one that is named before it.
abbrev pub IsNoLater : PartFault → Fault → Type 0
IsNoLater (parts.Double bank k) (Missing bank' k') = (bank' < bank) ⊎ ((bank' ≡ bank) × (k' < k))
IsNoLater (parts.Double bank k) (Double bank' k') = (bank' < bank) ⊎ ((bank' ≡ bank) × (k' ≤ k))
IsNoLater (parts.Port port at rule) (Missing bank' k') = Unit {0}
IsNoLater (parts.Port port at rule) (Double bank' k') = Unit {0}
IsNoLater (parts.Port port at rule) (Port port' at' rule') = (port' < port) ⊎ (Port port' at' rule' ≡ Port port at rule)
IsNoLater (parts.Bank bank number rule) (Missing bank' k') = Unit {0}
IsNoLater (parts.Bank bank number rule) (Double bank' k') = Unit {0}
IsNoLater (parts.Bank bank number rule) (Port port' at' rule') = Unit {0}
IsNoLater (parts.Bank bank number rule) (Bank bank' number' rule') =
    (bank' < bank) ⊎ (Bank bank' number' rule' ≡ Bank bank number rule)
IsNoLater _ _ = ⊥

-- Not a yes: a fault of a part, or one named before it, or the same field of the header, or the bytes are no trace.
abbrev pub IsNoYesAfter : Broken → Outcome → Type 0
IsNoYesAfter (broken.Header field) (Refused (refusals.Header told)) = told ≡ field
IsNoYesAfter (broken.Part fault upon) (No told) = IsNoLater fault told
IsNoYesAfter found (Refused (refusals.Format format)) = Unit {0}
IsNoYesAfter _ _ = ⊥

-- What broke is final for these bytes: whatever bytes follow, the outcome is no yes.
abbrev pub IsFinal : Shape → List ℕ → Broken → Type 0
IsFinal shape bytes found = (more : List ℕ) (outcome : Outcome) → AreBytes more →
    IsOutcomeOf shape (bytes ++ more) outcome → IsNoYesAfter found outcome

-- ---- the laws

-- The bytes begin a trace for the shape: its header and its memory are whole, and these records have come.
pub record Begins (shape : Shape) (bytes : List ℕ) (memory : List (ℕ × Bytes)) (records : List Record) : Type 0 where
  pub header : Header
  pub read : header_of bytes ≡ Some header
  pub agrees : Agrees shape header
  pub whole : length memory ≡ header.memory_count
  pub memory_is : (reading_of bytes).memory ≡ memory
  pub rest : List Record
  pub records_are : (reading_of bytes).records ≡ records ++ rest

-- A fault of a part of the records so far is final.
abbrev pub PartFaultsAreFinal : Type 0
PartFaultsAreFinal = (shape : Shape) (bytes : List ℕ) (memory : List (ℕ × Bytes)) (records : List Record)
    (fault : PartFault) (upon : Option Upon) → AreBytes bytes
    → Begins shape bytes memory records → IsFaultOfPart shape (flat_memory memory) records fault →
    IsFinal shape bytes (broken.Part fault upon)

-- So is a header of another hierarchy.
abbrev pub OtherHeadersAreFinal : Type 0
OtherHeadersAreFinal = (shape : Shape) (bytes : List ℕ) (header : Header) (field : HeaderField) → AreBytes bytes →
    header_of bytes ≡ Some header → Differs shape header field
    → IsFinal shape bytes (broken.Header field)

-- ---- what a session says

-- The record at this place is the first of the records so far upon which a part broke, and of the faults that broke
-- upon it this one is named.
pub record IsFirstOf (shape : Shape) (bytes : List ℕ) (fault : PartFault) (upon : Upon) : Type 0 where
  pub memory : List (ℕ × Bytes)
  pub records : List Record
  pub begins : Begins shape bytes memory records
  pub first : IsFirstBreak (first_offset begins.header memory) shape (flat_memory memory) records fault upon

-- Where a part broke a record is named, and it is that one. A header is named by the first field that differs.
abbrev pub IsEarliest : Shape → List ℕ → Broken → Type 0
IsEarliest shape bytes (broken.Header field) = IsOfAnotherHeader shape bytes field
IsEarliest shape bytes (broken.Part fault None) = ⊥
IsEarliest shape bytes (broken.Part fault (Some upon)) = IsFirstOf shape bytes fault upon

-- Where the bytes are a trace for the shape, no part of its records is at fault.
abbrev pub NoneBrokeInTrace : Shape → List ℕ → Type 0
NoneBrokeInTrace shape bytes = (memory : List (ℕ × Bytes)) (logs : List (List Record))
    (trace : IsTraceFor shape bytes memory logs) → NoneBroke shape (flat_memory memory) trace.records

-- This is told of what broke first in the bytes.
pub record IsToldFirst (shape : Shape) (bytes : List ℕ) (found : Option Broken) : Type 0 where
  pub earliest : IfSome found (IsEarliest shape bytes)
  pub none : IfNone found (NoneBrokeSoFar shape bytes)

-- ---- the laws of what is told

-- Of the same bytes one thing is told.
abbrev pub OneIsEarliest : Type 0
OneIsEarliest = (shape : Shape) (bytes : List ℕ) (found other : Option Broken) → IsToldFirst shape bytes found →
    IsToldFirst shape bytes other → found ≡ other

-- What broke first stays so, whatever bytes follow.
abbrev pub EarliestStays : Type 0
EarliestStays = (shape : Shape) (bytes more : List ℕ) (found : Broken) → AreBytes bytes → AreBytes more →
    IsEarliest shape bytes found → IsEarliest shape (bytes ++ more) found

-- Behind a fault of the format nothing breaks.
abbrev pub NoneBreaksBehind : Type 0
NoneBreaksBehind = (shape : Shape) (bytes more : List ℕ) (fault : CodecFault) → fault_so_far bytes ≡ Some fault →
    NoneBrokeSoFar shape bytes → NoneBrokeSoFar shape (bytes ++ more)
