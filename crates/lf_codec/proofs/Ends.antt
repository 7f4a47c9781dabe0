-- The end of a trace, and its header.
use Rattle.std.proofs.Common.{◌≡◌, ℕ, ◌-◌, List, [], ◌∷◌, ◌++◌, length, take, drop, Option, Some, None, Result, Ok}
use Rattle.std.proofs.Common.{Err, refl, sym, ap, ◌∙◌, arith, ltb, inl, inr, ◌⊎◌}
use Rattle.std.specs.Prelude.{◌==◌}
use Rattle.std.proofs.lemmas.Bool.{cond_both}
use Rattle.std.proofs.lemmas.List.{length-take-le, take-append-drop}
use Rattle.lf_codec.specs.declared.header.Header.{Header}
use Rattle.lf_codec.specs.declared.fault.CodecCause.{CodecCause}
use Rattle.lf_codec.specs.declared.fault.CodecCause.TheVariants.{Trailing}
use Rattle.lf_codec.specs.declared.fault.CodecFault.{CodecFault}
use Rattle.lf_codec.specs.declared.stage.Stage.{Stage}
use Rattle.lf_codec.specs.declared.stage.Stage.TheVariants as stages
use Rattle.lf_codec.specs.declared.stage.Found.{Found}
use Rattle.lf_codec.specs.declared.stage.Found.TheVariants as found
use Rattle.lf_codec.specs.declared.progress.Progress.{Progress}
use Rattle.lf_codec.specs.Checks.{judged, byte_at, header_checks, stage_checks}
use Rattle.lf_codec.specs.Steps.{stage_len, header_at, head_at, at_next, past_head, advanced}
use Rattle.lf_codec.specs.Reading.{Reading, reading_of, read_on, byte_read, byte_unless, stepped_if, failed}
use Rattle.lf_codec.specs.Reading.{nothing_read, end_of, truncated_at, fault_of}
use Rattle.lf_codec.specs.Reading.{fault_so_far, trace_fault, header_of, header_now, header_unless}
use Rattle.lf_codec.specs.Laws.{MoreIsTrailing, LessIsTruncated, HeaderIsOfItsBytes, header_if}
use Rattle.lf_codec.proofs.Bytes.{header-between, header-past_head, header-past_fixed, read_on-append, read_on-failed}
use Rattle.lf_codec.proofs.Parts.{waits_on, steps_on}
use Rattle.lf_codec.proofs.Forward.{clean}
use Rattle.lf_codec.proofs.Backward.{fine_before, no_fault_at, read_is_spelled}
use Rattle.lf_codec.proofs.Pieces.{marked_of}
use Rattle.lf_codec.proofs.TraceLaws.{whole_of_trace, trace_is_read, trailing, no_trace_begins_another}

-- ---- one byte more, one byte less

pub more_is_trailing : MoreIsTrailing
more_is_trailing bytes more b h memory records fits trace =
    let w = whole_of_trace bytes h memory records trace in
    let fine : (reading_of bytes).fault ≡ None = ap (λ (q : Reading). q.fault) w.reads in
    let marked = marked_of bytes fits fine in
    let position : (reading_of bytes).progress.position ≡ w.at_end.position =
    ap (λ (q : Reading). q.progress.position) w.reads in
    let nothing : length (reading_of bytes).pending ≡ 0 = ap (λ (q : Reading). length q.pending) w.reads in
    let offset : w.at_end.offset ≡ length bytes = omega (arith, w.place, position, nothing, marked.position) in
    let start : Reading = clean w.at_end memory records in
    let here : byte_read start b ≡ failed start Trailing = trailing w.at_end memory records b w.stage in
    let known : (byte_read start b).fault ≡ (failed start Trailing).fault = ap (λ (q : Reading). q.fault) here in
    let joined : reading_of (bytes ++ b ∷ more) ≡ failed start Trailing =
    read_on-append bytes (b ∷ more) nothing_read ∙ ap (λ (q : Reading). read_on q (b ∷ more)) w.reads
    ∙ read_on-failed more (byte_read start b) (record { cause = Trailing; offset = w.at_end.offset }) known ∙ here in
    ap (λ (q : Reading). q.fault) joined ∙ ap (λ (n : ℕ). Some (record { cause = Trailing; offset = n })) offset

end_cases : (s : Stage) (offset : ℕ) → (end_of s offset ≡ None) ⊎ (end_of s offset ≡ truncated_at offset)
end_cases stages.Header offset = inr refl
end_cases stages.MemoryBlock offset = inr refl
end_cases (stages.MemoryData block) offset = inr refl
end_cases stages.Head offset = inr refl
end_cases (stages.Fixed head) offset = inr refl
end_cases (stages.Data head fixed) offset = inr refl
end_cases stages.Ended offset = inl refl

pub less_is_truncated : LessIsTruncated
less_is_truncated bytes more b h memory records fits trace =
    let whole : trace_fault (bytes ++ b ∷ more) ≡ None = (trace_is_read (bytes ++ b ∷ more) h memory records trace).0 in
    let joined : reading_of (bytes ++ b ∷ more) ≡ read_on (reading_of bytes) (b ∷ more) =
    read_on-append bytes (b ∷ more) nothing_read in
    let later : (read_on (reading_of bytes) (b ∷ more)).fault ≡ None = ap (λ (q : Reading). q.fault) (sym joined)
    ∙ (no_fault_at (reading_of (bytes ++ b ∷ more)) (fault_so_far (bytes ++ b ∷ more)) whole).0 in
    let fine : fault_so_far bytes ≡ None = fine_before (reading_of bytes) (b ∷ more) later in
    let marked = marked_of bytes fits fine in
    let r : Reading = reading_of bytes in
    let own : trace_fault bytes ≡ end_of (reading_of bytes).progress.stage (reading_of bytes).progress.offset =
    ap (fault_of (reading_of bytes)) fine in
    elim (end_cases (reading_of bytes).progress.stage (reading_of bytes).progress.offset) [
      | inl ended ↦ absurd (
          let first = read_is_spelled bytes fits (own ∙ ended) in
          let none : b ∷ more ≡ [] = no_trace_begins_another bytes (b ∷ more) (reading_of bytes).progress.header h
          (reading_of bytes).memory memory (reading_of bytes).records records first trace in
          cc)
      | inr short ↦ record {
        offset = (reading_of bytes).progress.offset;
        within = marked.offset;
        fault = own ∙ short;
        same = record { header = marked.header; memory = marked.memory; records = marked.records };
      }
    ]

-- ---- the header

stays_in_step : (s : Stage) (q : Progress) (bytes : List ℕ) (h : Header) → header_unless s q.header ≡ Some h
    → header_unless (advanced s (record q { stage = s }) bytes).0.stage
    (advanced s (record q { stage = s }) bytes).0.header ≡ Some h
unfolding advanced
stays_in_step stages.Header q bytes h e = absurd cc
stays_in_step stages.MemoryBlock q bytes h e = e
stays_in_step (stages.MemoryData block) q bytes h e = header-between (q.left - 1) q.header ∙ e
stays_in_step stages.Head q bytes h e =
    let p : Progress = record q { stage = stages.Head } in
    cond_both (byte_at 0 bytes == 0) (at_next p 8 stages.Ended, found.Nothing) (past_head p (head_at bytes))
    (λ (x : Progress × Found). header_unless x.0.stage x.0.header ≡ Some h)
    (λ _. e) (λ _. header-past_head p (head_at bytes) ∙ e)
stays_in_step (stages.Fixed head) q bytes h e = header-past_fixed (record q { stage = stages.Fixed head }) head bytes
    ∙ e
stays_in_step (stages.Data head fixed) q bytes h e = e
stays_in_step stages.Ended q bytes h e = e

stays_if : (judgement : Result (Unit {0}) CodecCause) (r : Reading) (bytes : List ℕ) (h : Header) →
    header_now r ≡ Some h → header_now (stepped_if judgement r bytes) ≡ Some h
stays_if (Ok _) r bytes h e = stays_in_step r.progress.stage r.progress bytes h e
stays_if (Err cause) r bytes h e = e

stays_unless : (fault : Option CodecFault) (r : Reading) (b : ℕ) (h : Header) → header_now r ≡ Some h →
    header_now (byte_unless fault r b) ≡ Some h
stays_unless (Some f) r b h e = e
stays_unless None r b h e =
    let bytes = r.pending ++ b ∷ [] in
    cond_both (ltb (length bytes) (stage_len r.progress.header r.progress.stage)) (record r { pending = bytes })
    (stepped_if (judged (stage_checks r.progress.stage r.progress bytes)) r bytes)
    (λ (q : Reading). header_now q ≡ Some h)
    (λ _. e)
    (λ _. stays_if (judged (stage_checks r.progress.stage r.progress bytes)) r bytes h e)

stays : (bytes : List ℕ) (r : Reading) (h : Header) → header_now r ≡ Some h → header_now (read_on r bytes) ≡ Some h
unfolding byte_read
stays [] r h e = e
stays (b ∷ bytes) r h e = stays bytes (byte_read r b) h (stays_unless r.fault r b h e)

-- the first step, and what follows it
header_after : (judgement : Result (Unit {0}) CodecCause) (bytes more : List ℕ) →
    header_now (read_on (stepped_if judgement nothing_read bytes) more) ≡ header_if judgement bytes
unfolding advanced
header_after (Ok u) bytes more = stays more (stepped_if (Ok u) nothing_read bytes) (header_at bytes)
    (header-between (header_at bytes).memory_count (header_at bytes))
header_after (Err cause) bytes more = ap header_now (read_on-failed more (failed nothing_read cause)
    (record { cause = cause; offset = 0 }) refl)

pub header_is_of_its_bytes : HeaderIsOfItsBytes
unfolding stage_checks
header_is_of_its_bytes = record {
  fewer = λ bytes short. ap header_now (waits_on bytes nothing_read refl short);
  whole = λ bytes enough.
      let front = take 16 bytes in
      let first : reading_of front ≡ stepped_if (judged (header_checks front)) nothing_read front =
      steps_on front nothing_read refl (omega arith) (length-take-le 16 bytes enough) in
      ap header_of (sym (take-append-drop 16 bytes)) ∙ ap header_now
      (read_on-append front (drop 16 bytes) nothing_read ∙ ap (λ (q : Reading). read_on q (drop 16 bytes)) first)
      ∙ header_after (judged (header_checks front)) front (drop 16 bytes);
}
