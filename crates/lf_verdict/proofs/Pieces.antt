-- Pieces joined, and a fault that stands in some of them.
use Rattle.std.proofs.Common.{◌≡◌, ◌+◌, ◌<◌, ◌≤◌, ℕ, List, [], ◌∷◌, ◌++◌, length, take, drop, get_or, Option, Some}
use Rattle.std.proofs.Common.{None, Ok, Err, sym, ◌∙◌, ap, refl, subst, ◌⊎◌, inl, inr, ⊎_elim}
use Rattle.std.specs.Borrow.{Bor}
use Rattle.std.proofs.lemmas.List.{take_all, take_more, append-nil, take-append-drop}
use Rattle.std.proofs.lemmas.List.Concat.{flat_map-append, flat_map-cons}
use Rattle.lf_codec.specs.declared.fault.CodecCause.TheVariants.{NoMemory}
use Rattle.lf_codec.specs.declared.fault.CodecFault.{CodecFault}
use Rattle.lf_codec.specs.declared.fault.Told.{Told}
use Rattle.lf_codec.specs.Reading.{Reading, nothing_read, byte_read, byte_unless, read_on, reading_of, trace_fault}
use Rattle.lf_codec.specs.Reading.{fault_of}
use Rattle.lf_rules.specs.Fits.{Bytes}
use Rattle.lf_rules.specs.declared.event.Record.{Record}
use Rattle.lf_codec.specs.Trace.{IsTrace}
use Rattle.lf_codec.specs.Reader.{told, fault_in, finish_gives, HasRead, RanOut}
use Rattle.lf_codec.specs.declared.header.Header.{Header}
use Rattle.lf_verdict.specs.Legal.{joined}
use Rattle.lf_verdict.specs.declared.stop.Stop.{Stop}
use Rattle.lf_verdict.specs.declared.stop.Stop.TheVariants as stops
use Rattle.lf_verdict.specs.inner.Gathering.{IsFaultOrWant, IsReadStop, IsStopOf}

pub joined_more : (pieces : List (Bor (List ℕ))) (i : ℕ) (none : Bor (List ℕ)) → i < length pieces →
    joined (take i pieces) ++ (get_or pieces i none).now ≡ joined (take (i + 1) pieces)
joined_more pieces i none lt =
    let piece = get_or pieces i none in
    sym (ap joined (take_more pieces i none lt) ∙ flat_map-append (λ p. p.now) (take i pieces) (piece ∷ [])
    ∙ ap (λ (t : List ℕ). joined (take i pieces) ++ t) (flat_map-cons (λ p. p.now) piece [] ∙ append-nil piece.now))

-- all pieces
pub joined_all : (pieces : List (Bor (List ℕ))) (i : ℕ) → length pieces ≤ i → joined (take i pieces) ≡ joined pieces
joined_all pieces i past = ap joined (take_all i pieces past)

pub joined_in_two : (pieces : List (Bor (List ℕ))) (n : ℕ) →
    joined (take n pieces) ++ joined (drop n pieces) ≡ joined pieces
joined_in_two pieces n = sym (flat_map-append (λ p. p.now) (take n pieces) (drop n pieces))
    ∙ ap joined (take-append-drop n pieces)

read_on_both : (xs ys : List ℕ) (r : Reading) → read_on r (xs ++ ys) ≡ read_on (read_on r xs) ys
read_on_both [] ys r = refl
read_on_both (x ∷ xs) ys r = read_on_both xs ys (byte_read r x)

fault_stays : (bytes : List ℕ) (r : Reading) (fault : CodecFault) → r.fault ≡ Some fault → read_on r bytes ≡ r
unfolding byte_read
fault_stays [] r fault e = refl
fault_stays (b ∷ bytes) r fault e =
    let same : byte_read r b ≡ r = ap (λ (f : Option CodecFault). byte_unless f r b) e in
    ap (λ (q : Reading). read_on q bytes) same ∙ fault_stays bytes r fault e

-- nothing is read behind a fault
pub nothing_behind : (fed rest : List ℕ) (fault : CodecFault) → (reading_of fed).fault ≡ Some fault →
    reading_of (fed ++ rest) ≡ reading_of fed
nothing_behind fed rest fault e = read_on_both fed rest nothing_read ∙ fault_stays rest (reading_of fed) fault e

-- a fault that stands in a part of the bytes is the fault of the whole
fault_of_whole : (fed rest : List ℕ) (fault : CodecFault) → (reading_of fed).fault ≡ Some fault →
    trace_fault (fed ++ rest) ≡ Some fault
fault_of_whole fed rest fault e =
    let same : reading_of (fed ++ rest) ≡ reading_of fed = nothing_behind fed rest fault e in
    ap (λ (r : Reading). fault_of r r.fault) same ∙ ap (fault_of (reading_of fed)) e

pub fault_told : (fault : Option CodecFault) (t : Told CodecFault) → told None fault ≡ Err t → fault ≡ Some (fault_in t)
fault_told None t e = cc
fault_told (Some fault) t e = cc

-- what a feed that failed says of all bytes
pub feed_failed : (old : Option CodecFault) (r : Reading) (fed rest : List ℕ) (memory : List (ℕ × Bytes))
    (records : List Record) (t : Told CodecFault) → old ≡ None → told old r.fault ≡ Err t
    → HasRead r fed memory records ⊎ RanOut r fed memory records → IsFaultOrWant (fed ++ rest) (fault_in t)
feed_failed old r fed rest memory records t fine e (inl has) =
    inr (fault_of_whole fed rest (fault_in t) (ap (λ (q : Reading). q.fault) has.same
    ∙ fault_told r.fault t (rw fine at e)))
feed_failed old r fed rest memory records t fine e (inr out) =
    let same : Some out.fault ≡ Some (fault_in t) = sym out.failed ∙ fault_told r.fault t (rw fine at e) in
    let one : out.fault ≡ fault_in t = cc in
    inl (subst (λ (f : CodecFault). f.cause ≡ NoMemory) one out.cause)

-- what a finish that failed says
pub finish_failed : (old now : Option CodecFault) (h : Header) (bytes : List ℕ) (t : Told CodecFault) → old ≡ None →
    trace_fault bytes ≡ now
    → finish_gives old now h ≡ Err t → IsFaultOrWant bytes (fault_in t)
finish_failed old None h bytes t fine e is = let f : finish_gives None None h ≡ Err t = rw fine at is in absurd (cc)
finish_failed old (Some fault) h bytes t fine e is = let f : finish_gives None (Some fault) h ≡ Err t =
    rw fine at is in inr (e ∙ ap Some (fault_is fault t f))
  where
    fault_is : (fault : CodecFault) (t : Told CodecFault) → finish_gives None (Some fault) h ≡ Err t →
        fault ≡ fault_in t
    fault_is fault t e = cc

-- what ends the reading there
pub reading_stop : (bytes : List ℕ) (fault : CodecFault) (stop : Stop) → IsFaultOrWant bytes fault →
    IsStopOf fault stop → IsReadStop bytes stop
reading_stop bytes fault (stops.Format told) either is =
    ⊎_elim (λ want. absurd (is.1 want)) (λ e. e ∙ ap Some (sym is.0)) either
reading_stop bytes fault stops.Memory either is = tt

-- a feed that succeeded leaves no fault
pub told_fine : (old now : Option CodecFault) → old ≡ None → told old now ≡ Ok tt → now ≡ None
told_fine old None fine e = refl
told_fine old (Some fault) fine e = let f : told None (Some fault) ≡ Ok tt = rw fine at e in absurd (cc)

pub same_trace : (bytes : List ℕ) (h h' : Header) (memory memory' : List (ℕ × Bytes)) (records records' : List Record)
    → h' ≡ h → memory' ≡ memory → records' ≡ records → IsTrace bytes h memory records →
    IsTrace bytes h' memory' records'
same_trace bytes h h' memory memory' records records' a b c trace = rw (a, b, c) trace

-- nothing is left to take
pub whole_trace : (bytes : List ℕ) (h : Header) (memory left : List (ℕ × Bytes)) (records rest : List Record) →
    left ≡ [] → rest ≡ []
    → IsTrace bytes h (memory ++ left) (records ++ rest) → IsTrace bytes h memory records
whole_trace bytes h memory left records rest none nothing trace =
    same_trace bytes h h (memory ++ left) memory (records ++ rest) records refl
    (sym (ap (λ m. memory ++ m) none ∙ append-nil memory)) (sym
    (ap (λ rs. records ++ rs) nothing ∙ append-nil records)) trace
