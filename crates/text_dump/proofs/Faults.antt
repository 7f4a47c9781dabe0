-- What a reader's faults say of its bytes.
use Rattle.std.proofs.Common.{◌≡◌, ◌≢◌, ◌⊎◌, inl, inr, ℕ, List, Option, Some, None, Ok, Err, refl, sym, ap, ◌∙◌}
use Rattle.lf_rules.specs.Fits.{Bytes}
use Rattle.lf_rules.specs.declared.event.Record.{Record}
use Rattle.lf_codec.specs.declared.header.Header.{Header}
use Rattle.lf_codec.specs.declared.fault.CodecCause.TheVariants.{NoMemory}
use Rattle.lf_codec.specs.declared.fault.CodecFault.{CodecFault}
use Rattle.lf_codec.specs.declared.fault.Told.{Told}
use Rattle.lf_codec.specs.declared.fault.Told.TheVariants.{Fault, Failed}
use Rattle.lf_codec.specs.Laws.{FaultsSoFarAreNotTruncated}
use Rattle.lf_codec.specs.Reader.{HasRead, RanOut, fault_in, finish_gives}
use Rattle.lf_codec.specs.Reading.{Reading, reading_of, fault_of, fault_so_far, trace_fault}
use Rattle.text_dump.specs.Dump.{HasFault}

-- a fault that stands
pub stands : FaultsSoFarAreNotTruncated → (bytes : List ℕ) (memory : List (ℕ × Bytes)) (records : List Record)
    (r : Reading) (f : CodecFault)
    → HasRead r bytes memory records → r.fault ≡ Some f → HasFault bytes
stands so_far bytes memory records r f has failed =
    let (whole, other) = (so_far bytes f).0 (ap (λ (q : Reading). q.fault) has.same ∙ failed) in (f, whole, other)

pub none_stands : FaultsSoFarAreNotTruncated → (bytes : List ℕ) → fault_so_far bytes ≡ None → ¬ HasFault bytes
none_stands so_far bytes none (fault, is, other) = let bad : None ≡ Some fault =
    sym none ∙ (so_far bytes fault).1 (is, other) in cc

-- another fault is not that memory ran out
pub not_out : (r : Reading) (fed : List ℕ) (memory : List (ℕ × Bytes)) (records : List Record) (f : CodecFault)
    → RanOut r fed memory records → r.fault ≡ Some f → f.cause ≢ NoMemory → ⊥
not_out r fed memory records f ran failed other =
    let both : Some ran.fault ≡ Some f = sym ran.failed ∙ failed in
    let same : ran.fault ≡ f = cc in
    other (ap (λ (g : CodecFault). g.cause) (sym same) ∙ ran.cause)

pub unless_out : (r : Reading) (fed : List ℕ) (memory : List (ℕ × Bytes)) (records : List Record) (f : CodecFault)
    → HasRead r fed memory records ⊎ RanOut r fed memory records → r.fault ≡ Some f → f.cause ≢ NoMemory →
    HasRead r fed memory records
unless_out r fed memory records f (inl read) failed other = read
unless_out r fed memory records f (inr ran) failed other = absurd (not_out r fed memory records f ran failed other)

-- ---- the end

pub ends_well : (own now : Option CodecFault) (h header : Header) → finish_gives own now h ≡ Ok header → now ≡ None
ends_well (Some f) now h header e = absurd cc
ends_well None (Some f) h header e = absurd cc
ends_well None None h header e = refl

gives_fault : (own now : Option CodecFault) (h : Header) (t : Told CodecFault) →
    ((f : CodecFault) → own ≡ Some f → now ≡ Some f)
    → finish_gives own now h ≡ Err t → now ≡ Some (fault_in t)
gives_fault (Some f) now h t same e = let is : Failed f ≡ t = cc in
    same f refl ∙ ap (λ (x : Told CodecFault). Some (fault_in x)) is
gives_fault None (Some f) h t same e = let is : Fault f ≡ t = cc in ap (λ (x : Told CodecFault). Some (fault_in x)) is
gives_fault None None h t same e = absurd cc

pub ends_badly : (bytes : List ℕ) (h : Header) (t : Told CodecFault) →
    finish_gives (fault_so_far bytes) (trace_fault bytes) h ≡ Err t → trace_fault bytes ≡ Some (fault_in t)
ends_badly bytes h t e = gives_fault (fault_so_far bytes) (trace_fault bytes) h t
    (λ f some. ap (fault_of (reading_of bytes)) some) e
