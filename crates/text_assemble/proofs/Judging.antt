-- What a reader answers to one more piece.
use Rattle.std.proofs.Common.{◌≡◌, ℕ, List, Option, Some, None, Result, Ok, Err, refl, sym, ap, ◌∙◌}
use Rattle.lf_codec.specs.declared.fault.CodecFault.{CodecFault}
use Rattle.lf_codec.specs.declared.fault.Told.{Told}
use Rattle.lf_codec.specs.Reader.{told}
use Rattle.lf_codec.specs.Reading.{fault_of, reading_of, trace_fault}
use Rattle.text_assemble.specs.declared.fault.AssembleCause.{AssembleCause}
use Rattle.text_assemble.specs.Assembly.{ended}
use Rattle.text_assemble.specs.Draft.{IsForbidden}

abbrev pub taken : Result (Unit {0}) (Told CodecFault)
taken = Ok tt

-- a piece that is taken leaves no fault
pub taken_is_fine : (before after : Option CodecFault) → taken ≡ told before after → after ≡ None
taken_is_fine (Some f) after e = absurd cc
taken_is_fine None (Some f) e = absurd cc
taken_is_fine None None e = refl

-- bytes that are forbidden give that fault
pub forbidden_ends : (line : ℕ) (bytes : List ℕ) (cause : AssembleCause) → IsForbidden bytes cause
    → ended line bytes (trace_fault bytes) ≡ Err (record { line = line; cause = cause })
forbidden_ends line bytes cause f =
    ap (λ (g : Option CodecFault). ended line bytes (fault_of (reading_of bytes) g)) f.there
    ∙ ap (λ (c : AssembleCause). Err (record { line = line; cause = c })) (sym f.is)
