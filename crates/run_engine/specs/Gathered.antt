-- What is known of the bytes that were read so far.
use Rattle.std.specs.Prelude.{◌≡◌, ◌≢◌, ◌⊎◌, ℕ, List, true, Some}
use Rattle.lf_rules.specs.declared.shape.Shape.{Shape}
use Rattle.lf_codec.specs.declared.fault.CodecFault.{CodecFault}
use Rattle.lf_codec.specs.declared.fault.CodecCause.TheVariants.{Truncated}
use Rattle.lf_codec.specs.Reading.{trace_fault}
use Rattle.lf_verdict.specs.Named.{NoneBrokeSoFar}
use Rattle.run_engine.specs.declared.ask.Needs.{Needs}

-- A fault stands in the bytes, whatever comes after them.
abbrev pub HasFault : List ℕ → Type 0
HasFault bytes = (fault : CodecFault) × (trace_fault bytes ≡ Some fault) × (fault.cause ≢ Truncated)

-- The trace is of another hierarchy, or a part is at fault in the records so far.
abbrev pub HasBroken : Shape → List ℕ → Type 0
HasBroken shape bytes = ¬ NoneBrokeSoFar shape bytes

-- No more bytes are wanted: a fault stands, or something broke for good and a run is to end with it.
unfoldable pub HasEnough : Needs → Shape → List ℕ → Type 0
HasEnough needs shape bytes = HasFault bytes ⊎ ((needs.early ≡ true) × HasBroken shape bytes)
