-- What stands before a fault is spelled as the beginning of a trace.
use Rattle.std.proofs.Common.{◌≡◌, ℕ, ◌≤◌, List, [], ◌∷◌, length, take, drop, Option, Some, None, refl, sym, ap}
use Rattle.std.proofs.Common.{subst, ◌∙◌, arith, inl, inr, ◌⊎◌}
use Rattle.std.proofs.lemmas.List.{take-append-le, take-append-drop}
use Rattle.lf_rules.specs.Fits.{Bytes}
use Rattle.lf_rules.specs.declared.event.Record.{Record}
use Rattle.lf_codec.specs.declared.header.Header.{Header}
use Rattle.lf_codec.specs.declared.fault.CodecCause.TheVariants.{Truncated}
use Rattle.lf_codec.specs.declared.fault.CodecFault.{CodecFault}
use Rattle.lf_codec.specs.declared.stage.Stage.{Stage}
use Rattle.lf_codec.specs.declared.stage.Stage.TheVariants as stages
use Rattle.lf_codec.specs.Reading.{Reading, reading_of, read_on, failed, nothing_read, end_of, fault_of, fault_so_far}
use Rattle.lf_codec.specs.Reading.{trace_fault, header_of, header_now}
use Rattle.lf_codec.specs.Trace.{IsTrace}
use Rattle.lf_codec.specs.Laws.{IsSpelledBefore, WhatStandsBeforeIsSpelled, beginning}
use Rattle.lf_codec.proofs.Bytes.{read_on-append}
use Rattle.lf_codec.proofs.Numbers.{IsBytes, IsBytes-take}
use Rattle.lf_codec.proofs.Backward.{IsBoundary, fault_cases, fine_before, IsBytes-front, spelled_so_far}
use Rattle.lf_codec.proofs.Backward.{read_is_spelled}
use Rattle.lf_codec.proofs.Pieces.{marked_of}
use Rattle.lf_codec.proofs.Faults.{fails_within}

-- the bytes up to the fault, which alone have none
record Before (bytes : List ℕ) (f : CodecFault) : Type 0 where
  front : List ℕ
  fits : IsBytes front
  fine : (reading_of front).fault ≡ None
  cut : take f.offset bytes ≡ take (reading_of front).progress.offset front
  header : header_of bytes ≡ header_of front
  memory : (reading_of bytes).memory ≡ (reading_of front).memory
  records : (reading_of bytes).records ≡ (reading_of front).records

end_offset : (s : Stage) (offset : ℕ) (f : CodecFault) → end_of s offset ≡ Some f → f.offset ≡ offset
end_offset stages.Header offset f e = let same : record { cause = Truncated; offset = offset } ≡ f = cc in
    ap (λ (g : CodecFault). g.offset) (sym same)
end_offset stages.MemoryBlock offset f e = let same : record { cause = Truncated; offset = offset } ≡ f = cc in
    ap (λ (g : CodecFault). g.offset) (sym same)
end_offset (stages.MemoryData block) offset f e = let same : record { cause = Truncated; offset = offset } ≡ f = cc in
    ap (λ (g : CodecFault). g.offset) (sym same)
end_offset stages.Head offset f e = let same : record { cause = Truncated; offset = offset } ≡ f = cc in
    ap (λ (g : CodecFault). g.offset) (sym same)
end_offset (stages.Fixed head) offset f e = let same : record { cause = Truncated; offset = offset } ≡ f = cc in
    ap (λ (g : CodecFault). g.offset) (sym same)
end_offset (stages.Data head fixed) offset f e = let same : record { cause = Truncated; offset = offset } ≡ f = cc in
    ap (λ (g : CodecFault). g.offset) (sym same)
end_offset stages.Ended offset f e = absurd cc

before_fault : (bytes : List ℕ) (f : CodecFault) → IsBytes bytes → trace_fault bytes ≡ Some f → Before bytes f
before_fault bytes f fits whole =
    elim (fault_cases (fault_so_far bytes)) [
      | inl none ↦
          let offset = end_offset (reading_of bytes).progress.stage (reading_of bytes).progress.offset f
          (ap (fault_of (reading_of bytes)) (sym none) ∙ whole) in
          record {
            front = bytes;
            fits = fits;
            fine = none;
            cut = ap (λ (n : ℕ). take n bytes) offset;
            header =
                refl;
            memory = refl;
            records = refl;
          }
      | inr bad ↦
          let same : Some bad.0 ≡ Some f = ap (fault_of (reading_of bytes)) (sym bad.1) ∙ whole in
          let some : fault_so_far bytes ≡ Some f = bad.1 ∙ same in
          let at = fails_within bytes nothing_read f refl some in
          let r : Reading = reading_of at.front in
          let known : fault_so_far bytes ≡ (failed r at.cause).fault = ap (λ (q : Reading). q.fault) at.is in
          let both : Some f ≡ (failed r at.cause).fault = sym some ∙ known in
          let own : f ≡ record { cause = at.cause; offset = r.progress.offset } = cc in
          let offset : f.offset ≡ r.progress.offset = ap (λ (g : CodecFault). g.offset) own in
          let front_fits : IsBytes at.front = IsBytes-front at.front (at.b ∷ at.back)
          (λ i. let there = fits i in rw (← at.split) there) in
          let marked = marked_of at.front front_fits at.fine in
          let within : f.offset ≤ length at.front = omega (arith, offset, marked.offset) in
          record {
            front = at.front;
            fits = front_fits;
            fine = at.fine;
            cut = ap (take f.offset) at.split ∙ take-append-le f.offset at.front (at.b ∷ at.back) within
                ∙ ap (λ (n : ℕ). take n at.front) offset;
            header = ap header_now at.is;
            memory = ap (λ (q : Reading). q.memory) at.is;
            records = ap (λ (q : Reading). q.records) at.is;
          }
    ]

-- bytes that end where a record may begin
spelled_at : (bytes : List ℕ) → IsBytes bytes → fault_so_far bytes ≡ None → (reading_of bytes).pending ≡ [] →
    IsBoundary (reading_of bytes).progress.stage
    → IsSpelledBefore (header_of bytes) (reading_of bytes).memory (reading_of bytes).records bytes
spelled_at bytes fits fine nothing at =
    let r : Reading = reading_of bytes in
    elim (spelled_so_far bytes fits fine nothing at) [
      | inl start ↦ subst (λ (o : Option Header). IsSpelledBefore o (reading_of bytes).memory
          (reading_of bytes).records bytes) (sym start.0) start.1
      | inr later ↦
          let known : header_of bytes ≡ Some (reading_of bytes).progress.header = later.0 in
          let spelled : (bytes ≡ beginning (reading_of bytes).progress.header (reading_of bytes).memory
          (reading_of bytes).records)
          ⊎ IsTrace bytes (reading_of bytes).progress.header (reading_of bytes).memory (reading_of bytes).records =
          elim later.1 [
            | inl own ↦ inl own
            | inr ended ↦ inr (read_is_spelled bytes fits (ap (fault_of (reading_of bytes)) fine
                ∙ ap (λ (s : Stage). end_of s (reading_of bytes).progress.offset) ended))
          ] in
          subst (λ (o : Option Header). IsSpelledBefore o (reading_of bytes).memory (reading_of bytes).records bytes)
          (sym known) spelled
    ]

pub what_stands_before_is_spelled : WhatStandsBeforeIsSpelled
what_stands_before_is_spelled bytes f fits whole =
    let before = before_fault bytes f fits whole in
    let front = before.front in
    let n = (reading_of front).progress.offset in
    let marked = marked_of front before.fits before.fine in
    let on : (read_on (reading_of (take n front)) (drop n front)).fault ≡ None =
    ap (λ (q : Reading). q.fault) (sym (read_on-append (take n front) (drop n front) nothing_read)
    ∙ ap reading_of (take-append-drop n front)) ∙ before.fine in
    let fine : fault_so_far (take n front) ≡ None = fine_before (reading_of (take n front)) (drop n front) on in
    let spelled = spelled_at (take n front) (IsBytes-take n front before.fits) fine marked.nothing marked.boundary in
    let header : header_of bytes ≡ header_of (take n front) = before.header ∙ sym marked.header in
    let memory : (reading_of bytes).memory ≡ (reading_of (take n front)).memory = before.memory ∙ sym marked.memory in
    let records : (reading_of bytes).records ≡ (reading_of (take n front)).records =
    before.records ∙ sym marked.records in
    let one = subst (λ (xs : List ℕ). IsSpelledBefore (header_of (take n front)) (reading_of (take n front)).memory
    (reading_of (take n front)).records xs) (sym before.cut) spelled in
    let two = subst (λ (xs : List Record). IsSpelledBefore (header_of (take n front))
    (reading_of (take n front)).memory xs (take f.offset bytes)) (sym records) one in
    let three = subst (λ (xs : List (ℕ × Bytes)). IsSpelledBefore (header_of (take n front)) xs
    (reading_of bytes).records (take f.offset bytes)) (sym memory) two in
    subst (λ (o : Option Header). IsSpelledBefore o (reading_of bytes).memory (reading_of bytes).records
    (take f.offset bytes)) (sym header) three
