-- Laws of what was taken from a reader.
use Rattle.std.proofs.Common.{◌≡◌, ◌≢◌, ◌⊎◌, inl, inr, ℕ, ◌-◌, ◌≤◌, List, [], ◌++◌, take, drop, Option, Some}
use Rattle.std.proofs.Common.{sym, ap, ◌∙◌, subst, arith}
use Rattle.std.proofs.Math.Seq.{take-add}
use Rattle.std.proofs.lemmas.List.{append-nil}
use Rattle.lf_rules.specs.declared.event.Record.{Record}
use Rattle.lf_rules.specs.Fits.{Bytes}
use Rattle.lf_codec.specs.declared.fault.CodecCause.TheVariants.{NoMemory}
use Rattle.lf_codec.specs.declared.fault.CodecFault.{CodecFault}
use Rattle.lf_codec.specs.declared.header.Header.{Header}
use Rattle.lf_codec.specs.Laws.{IsSomeTrace}
use Rattle.lf_codec.specs.Reader.{HasRead}
use Rattle.lf_codec.specs.Reading.{Reading}
use Rattle.lf_codec.specs.Trace.{IsTrace}
use Rattle.lf_codec.proofs.TraceLaws.{reading_is_exact}

-- Where nothing is left, what was taken is the trace.
pub all_taken : (bytes : List ℕ) (h : Header) (memory more : List (ℕ × Bytes)) (records rest : List Record)
    → IsTrace bytes h (memory ++ more) (records ++ rest) → more ≡ [] → rest ≡ [] → IsTrace bytes h memory records
all_taken bytes h memory more records rest trace e f =
    subst (λ (m : List (ℕ × Bytes)). IsTrace bytes h m records) (ap (λ m. memory ++ m) e ∙ append-nil memory)
    (subst (λ (rs : List Record). IsTrace bytes h (memory ++ more) rs)
    (ap (λ rs. records ++ rs) f ∙ append-nil records) trace)

-- The bytes up to a place and those from there on to a later one are those up to the later one.
pub up_to : (bytes : List ℕ) (at end : ℕ) → at ≤ end
    → take at bytes ++ take (end - at) (drop at bytes) ≡ take end bytes
up_to bytes at end le = sym (take-add at (end - at) bytes) ∙ ap (λ n. take n bytes) (omega (arith, le))

-- ---- faults

-- Of a reader that has failed by a fault of the format holds what does unless memory ran out.
pub unless_out : {P Out : Type 0} (fault : Option CodecFault) (f : CodecFault)
    → (Out → (g : CodecFault) × (fault ≡ Some g) × (g.cause ≡ NoMemory)) → P ⊎ Out → fault ≡ Some f
    → f.cause ≢ NoMemory → P
unless_out fault f ran (inl holds) failed other = holds
unless_out fault f ran (inr out) failed other =
    let both : Some (ran out).0 ≡ Some f = sym (ran out).1 ∙ failed in
    let same : (ran out).0 ≡ f = cc in
    absurd (other (ap (λ (g : CodecFault). g.cause) (sym same) ∙ (ran out).2))

-- A reader that was fed a trace is at its end.
pub is_at_end : (bytes : List ℕ) (is : IsSomeTrace bytes) (r : Reading) (memory : List (ℕ × Bytes))
    (records : List Record) → HasRead r bytes memory records
    → IsTrace bytes is.header (memory ++ r.memory) (records ++ r.records)
is_at_end bytes is r memory records has =
    let read = (reading_is_exact bytes is.header is.memory is.records has.are_bytes).1 is.trace in
    let blocks : is.memory ≡ memory ++ r.memory = sym read.2 ∙ ap (λ (q : Reading). q.memory) has.same in
    let events : is.records ≡ records ++ r.records = sym read.3 ∙ ap (λ (q : Reading). q.records) has.same in
    subst (λ (rs : List Record). IsTrace bytes is.header (memory ++ r.memory) rs) events
    (subst (λ (m : List (ℕ × Bytes)). IsTrace bytes is.header m is.records) blocks is.trace)
