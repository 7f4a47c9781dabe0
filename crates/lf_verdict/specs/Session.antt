-- What a session answers.
use Rattle.std.specs.Prelude.{◌≡◌, ℕ, true, List, Option, Some, None, Result, Ok, Err}
use Rattle.lf_rules.specs.declared.shape.Shape.{Shape}
use Rattle.lf_codec.specs.declared.header.Header.{Header}
use Rattle.lf_codec.specs.declared.fault.Told.{Told}
use Rattle.lf_codec.specs.declared.fault.Told.TheVariants as tolds
use Rattle.lf_codec.specs.Reading.{header_of, fault_so_far}
use Rattle.lf_verdict.specs.declared.stop.Stop.{Stop}
use Rattle.lf_verdict.specs.declared.stop.Stop.TheVariants as stops
use Rattle.lf_verdict.specs.declared.answer.HeaderField.{HeaderField}
use Rattle.lf_verdict.specs.declared.answer.Refusal.{Refusal}
use Rattle.lf_verdict.specs.declared.answer.Refusal.TheVariants as refusals
use Rattle.lf_verdict.specs.declared.session.asked.Asked.{Asked}
use Rattle.lf_verdict.specs.Configured.{IsConfigFault}
use Rattle.lf_verdict.specs.Legal.{Agrees}
use Rattle.lf_verdict.specs.Outcome.{Differs}

-- The header is of another hierarchy.
pub record IsOfAnotherHeader (shape : Shape) (bytes : List ℕ) (field : HeaderField) : Type 0 where
  pub header : Header
  pub read : header_of bytes ≡ Some header
  pub differs : Differs shape header field

-- Where the header is there it agrees with the shape.
abbrev pub HeaderAgrees : Shape → List ℕ → Type 0
HeaderAgrees shape bytes = (header : Header) → header_of bytes ≡ Some header → Agrees shape header

abbrev pub refusal_of : Stop → Refusal
refusal_of (stops.Format fault) = refusals.Format fault
refusal_of stops.Memory = refusals.Memory

-- a refusal is told when it is met, and as failed from then on
abbrev pub stop_told : Option Stop → Option Stop → Result (Unit {0}) (Told Refusal)
stop_told (Some stop) after = Err (tolds.Failed (refusal_of stop))
stop_told None (Some stop) = Err (tolds.Fault (refusal_of stop))
stop_told None None = Ok tt

-- It is known whether something broke: nothing stopped the session; or a fault of the format did, and it was asked what
-- broke first. Where memory ran out, not all that came is judged.
abbrev pub CanTell : Asked → Option Stop → Type 0
CanTell asked None = Unit {0}
CanTell asked (Some (stops.Format fault)) = asked.watched ≡ true
CanTell asked (Some stops.Memory) = ⊥

-- The fault of the format that stands in the bytes so far, whatever comes after them, or out of memory.
abbrev pub IsRefusalSoFar : List ℕ → Refusal → Type 0
IsRefusalSoFar bytes (refusals.Format fault) = fault_so_far bytes ≡ Some fault
IsRefusalSoFar bytes refusals.Memory = Unit {0}
IsRefusalSoFar bytes _ = ⊥

-- a text that is no configuration, or out of memory
abbrev pub IsConfigRefusal : List ℕ → Refusal → Type 0
IsConfigRefusal text (refusals.Config fault) = IsConfigFault text fault
IsConfigRefusal text refusals.Memory = Unit {0}
IsConfigRefusal text _ = ⊥
