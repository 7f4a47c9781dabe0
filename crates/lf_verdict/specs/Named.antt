-- What is named where it is not known which of several faults is the first.
use Rattle.std.specs.Prelude.{◌≡◌, ℕ, List, length, Some, None}
use Rattle.lf_rules.specs.declared.shape.Shape.{Shape}
use Rattle.lf_rules.specs.Address.{flat_memory}
use Rattle.lf_codec.specs.declared.header.Header.{Header}
use Rattle.lf_codec.specs.Reading.{reading_of, header_of}
use Rattle.lf_verdict.specs.declared.session.breaking.PartFault.{PartFault}
use Rattle.lf_verdict.specs.declared.session.breaking.Broken.{Broken}
use Rattle.lf_verdict.specs.declared.session.breaking.Broken.TheVariants as broken
use Rattle.lf_verdict.specs.Breaking.{IsNamedFault, NoneBroke}
use Rattle.lf_verdict.specs.Legal.{Agrees}
use Rattle.lf_verdict.specs.Session.{IsOfAnotherHeader, HeaderAgrees}

-- The header is there and agrees with the shape, and the memory is whole.
pub record HasBegun (shape : Shape) (bytes : List ℕ) : Type 0 where
  pub header : Header
  pub read : header_of bytes ≡ Some header
  pub agrees : Agrees shape header
  pub whole : length (reading_of bytes).memory ≡ header.memory_count

-- It is named of all records so far.
pub record IsNamedSoFar (shape : Shape) (bytes : List ℕ) (fault : PartFault) : Type 0 where
  pub begun : HasBegun shape bytes
  pub named : IsNamedFault shape (flat_memory (reading_of bytes).memory) (reading_of bytes).records fault

-- A header is named by the first field that differs, and a part without a record.
abbrev pub IsNamed : Shape → List ℕ → Broken → Type 0
IsNamed shape bytes (broken.Header field) = IsOfAnotherHeader shape bytes field
IsNamed shape bytes (broken.Part fault None) = IsNamedSoFar shape bytes fault
IsNamed shape bytes (broken.Part fault (Some upon)) = ⊥

-- The trace is of no other hierarchy, and no part is at fault in the records so far.
pub record NoneBrokeSoFar (shape : Shape) (bytes : List ℕ) : Type 0 where
  pub header : HeaderAgrees shape bytes
  pub parts : HasBegun shape bytes → NoneBroke shape (flat_memory (reading_of bytes).memory) (reading_of bytes).records

-- Of the same bytes one thing at most is named.
abbrev pub OneIsNamed : Type 0
OneIsNamed = (shape : Shape) (bytes : List ℕ) (found other : Broken) → IsNamed shape bytes found →
    IsNamed shape bytes other → found ≡ other
