-- What broke in the records before a fault of the format.
use Rattle.std.specs.Prelude.{◌≡◌, ◌⊎◌, ℕ, List, [], ◌++◌, Option, Some, None}
use Rattle.lf_rules.specs.declared.shape.Shape.{Shape}
use Rattle.lf_codec.specs.Reading.{reading_of}
use Rattle.explain_lines.specs.Marks.{besides, besides_of}
use Rattle.lf_verdict.specs.declared.answer.HeaderField.{HeaderField}
use Rattle.lf_verdict.specs.declared.session.breaking.PartFault.{PartFault}
use Rattle.lf_verdict.specs.declared.session.breaking.Upon.{Upon}
use Rattle.lf_verdict.specs.Breaking.{first_offset}
use Rattle.lf_verdict.specs.Final.{IsFirstOf}
use Rattle.lf_verdict.specs.Named.{NoneBrokeSoFar}
use Rattle.lf_verdict.specs.Session.{IsOfAnotherHeader}
use Rattle.explain_why.specs.declared.broken_before.BrokenBefore.{BrokenBefore}
use Rattle.explain_why.specs.Cause.{IsCause, cause_text}
use Rattle.explain_why.specs.NotLegal.{as_fault, first_heading}

-- It has the records in the bytes, the offset and the time of each, the record upon which the fault broke first, and
-- why it stands among them. A time is told by a log and a place in it.
pub record IsBrokenBy (shape : Shape) (bytes : List ℕ) (time : ℕ → ℕ → Option (List ℕ)) (most : ℕ) (fault : PartFault)
    (upon : Upon) (why : BrokenBefore) : Type 0 where
  pub first : IsFirstOf shape bytes fault upon
  pub records : why.records.records ≡ (reading_of bytes).records
  pub marks : besides why.marks
      ≡ besides_of time (first_offset first.begins.header first.memory) (reading_of bytes).records
  pub cause : IsCause shape first.memory why.records.records most (as_fault fault) why.cause
  pub upon_is : why.upon ≡ upon

-- That broke first in the bytes.
pub record IsBrokenBefore (shape : Shape) (bytes : List ℕ) (time : ℕ → ℕ → Option (List ℕ)) (most : ℕ)
    (why : BrokenBefore) : Type 0 where
  pub fault : PartFault
  pub upon : Upon
  pub is : IsBrokenBy shape bytes time most fault upon why

-- Where nothing is told nothing broke in the bytes, or they are of another hierarchy.
abbrev pub HasBrokenBefore : Shape → List ℕ → (ℕ → ℕ → Option (List ℕ)) → ℕ → Option BrokenBefore → Type 0
HasBrokenBefore shape bytes time most (Some why) = IsBrokenBefore shape bytes time most why
HasBrokenBefore shape bytes time most None =
    NoneBrokeSoFar shape bytes ⊎ ((field : HeaderField) × IsOfAnotherHeader shape bytes field)

abbrev pub broken_before_text : Option BrokenBefore → List ℕ
broken_before_text None = []
broken_before_text (Some why) =
    first_heading (Some why.upon) ++ cause_text why.records.records (besides why.marks) why.cause
