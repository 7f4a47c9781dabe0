-- What a reader has after a refusal, also one since memory ran out.
use Rattle.std.proofs.Common.{◌≡◌, ◌⊎◌, ℕ, ◌≤◌, List, ◌++◌, length, take, drop, Option, Some, None, Result}
use Rattle.std.proofs.Common.{Ok, Err, refl, sym, ap, subst, ◌∙◌, arith, append_assoc, inl, inr}
use Rattle.std.specs.Prelude.{OnOk, IfErr, IsSome}
use Rattle.std.proofs.lemmas.List.{length-append, take-append-le, take-append-drop}
use Rattle.lf_rules.specs.Fits.{Bytes}
use Rattle.lf_rules.specs.declared.event.Record.{Record}
use Rattle.lf_codec.specs.declared.fault.CodecFault.{CodecFault}
use Rattle.lf_codec.specs.declared.fault.Told.{Told}
use Rattle.lf_codec.specs.declared.fault.Told.TheVariants.{Fault, Failed}
use Rattle.lf_codec.specs.Reading.{Reading, reading_of, read_on, header_of, fault_so_far}
use Rattle.lf_codec.specs.Reader.{told, fault_in, IsKept, HasRead, Gives, HasFailed, RanOut}
use Rattle.lf_codec.specs.Reader.{WantsMemory}
use Rattle.lf_codec.specs.Takes.{WasRefused, WasCutShort, HasReadOn}
use Rattle.lf_codec.proofs.Numbers.{IsBytes, IsBytes-take}
use Rattle.lf_codec.proofs.Pieces.{has_read_on, marked_of, gives_of_read, fed, failed_stays, kept_same, kept_trans}
use Rattle.lf_codec.proofs.Pieces.{kept_on, fed_kept, fed_well, no_fault_told}
use Rattle.lf_codec.proofs.Faults.{what_stands_before_is_given}

-- a fault of the bytes
failed_of_read : (r : Reading) (bytes : List ℕ) (memory : List (ℕ × Bytes)) (records : List Record)
    (fault : CodecFault) → HasRead r bytes memory records → r.fault ≡ Some fault
    → HasFailed r bytes memory records fault
failed_of_read r bytes memory records fault has is =
    let so_far : fault_so_far bytes ≡ Some fault = ap (λ (q : Reading). q.fault) has.same ∙ is in
    let stands = what_stands_before_is_given bytes fault has.are_bytes so_far in
    let gives = gives_of_read r bytes memory records has in
    record {
      failed = is;
      within = stands.within;
      gives = record {
        header = gives.header ∙ sym stands.same.header;
        memory_records = gives.memory_records ∙ sym stands.same.memory;
        event_records = gives.event_records ∙ sym stands.same.records;
      };
    }

-- memory ran out at a record
wants : (r : Reading) (bytes : List ℕ) (memory : List (ℕ × Bytes)) (records : List Record) →
    RanOut r bytes memory records → WantsMemory r bytes memory records
wants r bytes memory records out = record {
  fault = out.fault;
  cause = out.cause;
  has_failed =
      record { failed = out.failed; within = out.within; gives = out.gives };
}

-- memory ran out before one
wants_before : (old new : Reading) (before piece : List ℕ) (memory : List (ℕ × Bytes)) (records : List Record) →
    IsBytes piece → (was : WasCutShort old piece new)
    → HasRead old before memory records → WantsMemory new (before ++ piece) memory records
wants_before old new before piece memory records fits was has =
    let mid = read_on old (take was.count piece) in
    let part = before ++ take was.count piece in
    let has_mid : HasRead mid part memory records = has_read_on old before (take was.count piece) memory records
    (IsBytes-take was.count piece fits) has in
    let fine_mid : (reading_of part).fault ≡ None = ap (λ (q : Reading). q.fault) has_mid.same ∙ was.fine in
    let marked = marked_of part has_mid.are_bytes fine_mid in
    let at = mid.progress.offset in
    let offset : at ≡ (reading_of part).progress.offset = sym (ap (λ (q : Reading). q.progress.offset) has_mid.same) in
    let within : at ≤ length part = omega (arith, offset, marked.offset) in
    let whole : before ++ piece ≡ part ++ drop was.count piece =
    ap (λ (t : List ℕ). before ++ t) (sym (take-append-drop was.count piece))
    ∙ sym (append_assoc before (take was.count piece) (drop was.count piece)) in
    let same : take at (before ++ piece) ≡ take at part = ap (take at) whole
    ∙ take-append-le at part (drop was.count piece) within in
    let gives = gives_of_read mid part memory records has_mid in
    let short : Gives mid (take at part) memory records = record {
      header = gives.header ∙ sym marked.header ∙ ap (λ (n : ℕ). header_of (take n part)) (sym offset);
      memory_records = gives.memory_records ∙ sym marked.memory
          ∙ ap (λ (n : ℕ). (reading_of (take n part)).memory) (sym offset);
      event_records = gives.event_records ∙ sym marked.records
          ∙ ap (λ (n : ℕ). (reading_of (take n part)).records) (sym offset);
    } in
    let there : Gives mid (take at (before ++ piece)) memory records =
    subst (λ (xs : List ℕ). Gives mid xs memory records) (sym same) short in
    rw was.is (record {
      fault = record { cause = _; offset = at };
      cause = refl;
      has_failed = record {
        failed = refl;
        within = omega (arith, within, ap length whole, length-append part (drop was.count piece));
        gives = record {
          header = there.header;
          memory_records = there.memory_records;
          event_records =
              there.event_records;
        };
      };
    })

-- the fault that a reader tells is the one that it has failed with
told_fault : (own now : Option CodecFault) (t : Told CodecFault) → Err t ≡ told own now → (IsSome own → now ≡ own) →
    now ≡ Some (fault_in t)
told_fault (Some f) now t e same = same refl ∙ ap (λ (x : Told CodecFault). Some (fault_in x))
    (let p : Failed f ≡ t = cc in p)
told_fault None (Some f) t e same = ap (λ (x : Told CodecFault). Some (fault_in x)) (let p : Fault f ≡ t = cc in p)
told_fault None None t e same = absurd cc

-- of two faults of one reader
one_fault : (r : Reading) (bytes : List ℕ) (memory : List (ℕ × Bytes)) (records : List Record) (fault : CodecFault) →
    r.fault ≡ Some fault → WantsMemory r bytes memory records
    → HasFailed r bytes memory records fault
one_fault r bytes memory records fault is wanted =
    let same : wanted.fault ≡ fault = (let failed = wanted.has_failed.failed in cc) in
    subst (HasFailed r bytes memory records) same wanted.has_failed

has_failed : (new : Reading) (bytes : List ℕ) (memory : List (ℕ × Bytes)) (records : List Record) (fault : CodecFault)
    → new.fault ≡ Some fault
    → HasRead new bytes memory records ⊎ WantsMemory new bytes memory records → HasFailed new bytes memory records fault
has_failed new bytes memory records fault is outcome =
    elim outcome [
      | inl read ↦ failed_of_read new bytes memory records fault read is
      | inr wanted ↦ one_fault new bytes memory records fault is wanted
    ]

read_or_wants : (r : Reading) (bytes : List ℕ) (memory : List (ℕ × Bytes)) (records : List Record) →
    HasRead r bytes memory records ⊎ RanOut r bytes memory records
    → HasRead r bytes memory records ⊎ WantsMemory r bytes memory records
read_or_wants r bytes memory records outcome = elim outcome
    [ inl read ↦ inl read | inr out ↦ inr (wants r bytes memory records out) ]

-- after a refused feed
pub refused : (old new : Reading) (piece : List ℕ) (answer : Result (Unit {0}) (Told CodecFault)) → IsBytes piece →
    answer ≡ told old.fault new.fault
    → (new ≡ read_on old piece) ⊎ WasRefused old piece new
    → IfErr answer (λ t. (before : List ℕ) (memory : List (ℕ × Bytes)) (records : List Record) →
    HasRead old before memory records
    → HasFailed new (before ++ piece) memory records (fault_in t))
refused old new piece (Ok u) fits is outcome = tt
refused old new piece (Err t) fits is outcome = λ before memory records has.
    let now = told_fault old.fault new.fault t is (λ some. ap (λ (q : Reading). q.fault)
    (failed_stays old new piece outcome some)) in
    has_failed new (before ++ piece) memory records (fault_in t) now
    (read_or_wants new (before ++ piece) memory records (fed old new before piece memory records fits outcome has))

-- ---- a reader and the caller's records, seen as one

pub packed : (old new : Reading) (before piece : List ℕ) (memory : List (ℕ × Bytes)) (records : List Record) →
    IsBytes piece → HasReadOn old piece new
    → HasRead old before memory records → HasRead new (before ++ piece) memory records
    ⊎ WantsMemory new (before ++ piece) memory records
packed old new before piece memory records fits outcome has =
    elim outcome [
      | inl read ↦ read_or_wants new (before ++ piece) memory records
          (fed old new before piece memory records fits read has)
      | inr was ↦ inr (wants_before old new before piece memory records fits was has)
    ]

pub packed_faults : (old new : Reading) (before piece : List ℕ) (memory : List (ℕ × Bytes)) (records : List Record)
    (answer : Result (Unit {0}) (Told CodecFault))
    → answer ≡ told old.fault new.fault → HasRead old before memory records
    → HasRead new (before ++ piece) memory records ⊎ WantsMemory new (before ++ piece) memory records
    → (answer ≡ told (fault_so_far before) (fault_so_far (before ++ piece)))
    ⊎ WantsMemory new (before ++ piece) memory records
packed_faults old new before piece memory records answer is has outcome =
    let first : fault_so_far before ≡ old.fault = ap (λ (q : Reading). q.fault) has.same in
    elim outcome [
      | inl read ↦ inl (let second : fault_so_far (before ++ piece) ≡ new.fault =
          ap (λ (q : Reading). q.fault) read.same in rw (first, second) is)
      | inr out ↦ inr out
    ]

pub packed_kept : (old new : Reading) (piece : List ℕ) → HasReadOn old piece new → IsKept old new
packed_kept old new piece outcome =
    elim outcome [
      | inl read ↦ fed_kept old new piece read
      | inr was ↦
          let mid = read_on old (take was.count piece) in
          kept_trans old mid new (kept_on (take was.count piece) old)
          (kept_same mid new (ap (λ (q : Reading). q.memory) was.is) (ap (λ (q : Reading). q.records) was.is))
    ]

pub packed_well : (old new : Reading) (piece : List ℕ) (answer : Result (Unit {0}) (Told CodecFault)) →
    IsBytes piece → answer ≡ told old.fault new.fault → HasReadOn old piece new
    → OnOk answer ((before : List ℕ) (memory : List (ℕ × Bytes)) (records : List Record) →
    HasRead old before memory records → HasRead new (before ++ piece) memory records)
packed_well old new piece (Ok u) fits is outcome =
    elim outcome [
      | inl read ↦ fed_well old new piece (Ok u) fits is read
      | inr was ↦ absurd (
          let none : new.fault ≡ None = (no_fault_told old.fault new.fault u (sym is)).1 in
          let some = ap (λ (q : Reading). q.fault) was.is in cc)
    ]
packed_well old new piece (Err t) fits is outcome = tt

pub packed_refused : (old new : Reading) (piece : List ℕ) (answer : Result (Unit {0}) (Told CodecFault)) →
    IsBytes piece → answer ≡ told old.fault new.fault
    → (IsSome old.fault → new.fault ≡ old.fault) → HasReadOn old piece new
    → IfErr answer (λ t. (before : List ℕ) (memory : List (ℕ × Bytes)) (records : List Record) →
    HasRead old before memory records
    → HasFailed new (before ++ piece) memory records (fault_in t))
packed_refused old new piece (Ok u) fits is stays outcome = tt
packed_refused old new piece (Err t) fits is stays outcome = λ before memory records has.
    has_failed new (before ++ piece) memory records (fault_in t) (told_fault old.fault new.fault t is stays)
    (packed old new before piece memory records fits outcome has)
