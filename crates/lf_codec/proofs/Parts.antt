-- What part of a piece does to a reading: the bytes of a step at once.
use Rattle.std.proofs.Common.{◌≡◌, ℕ, ◌+◌, ◌-◌, ◌<◌, ◌≤◌, List, [], ◌∷◌, ◌++◌, length, take, drop, get_or, Some, None}
use Rattle.std.proofs.Common.{Result, Ok, Err, refl, sym, ap, subst, ◌∙◌, arith, append_assoc, inl, inr, ◌⊎◌}
use Rattle.std.proofs.Math.Seq.{take-add, take-length}
use Rattle.std.proofs.lemmas.List.{append-nil, length-append, length-drop, get_or-drop, length-take-le}
use Rattle.std.proofs.lemmas.List.{take-append-drop, take_all}
use Rattle.lf_codec.specs.declared.fault.CodecCause.{CodecCause}
use Rattle.lf_codec.specs.declared.fault.CodecFault.{CodecFault}
use Rattle.lf_codec.specs.Checks.{judged, stage_checks}
use Rattle.lf_codec.specs.Steps.{stage_len, advanced}
use Rattle.lf_codec.specs.Reading.{Reading, byte_read, read_on, stepped, stepped_if, past_step}
use Rattle.lf_codec.specs.Reader.{HasOneMore}
use Rattle.lf_codec.specs.Takes.{IsRefused, WasRefused, IsUnkept, TakesPart, TakesStep}
use Rattle.lf_codec.proofs.Bytes.{byte_waits, byte_ends, read_on-append, read_on-failed, read_on-more, not_at_end}
use Rattle.lf_codec.proofs.Bytes.{one_more_given}

-- bytes that end no step
pub waits_on : (bytes : List ℕ) (r : Reading) → r.fault ≡ None →
    length (r.pending ++ bytes) < stage_len r.progress.header r.progress.stage
    → read_on r bytes ≡ record r { pending = r.pending ++ bytes }
waits_on [] r fine short = rw append-nil refl
waits_on (b ∷ bytes) r fine short =
    let front : length (r.pending ++ b ∷ []) < stage_len r.progress.header r.progress.stage =
    omega (arith, short, length-append r.pending (b ∷ []), length-append r.pending (b ∷ bytes)) in
    let r' : Reading = record r { pending = r.pending ++ b ∷ [] } in
    let same : (r.pending ++ b ∷ []) ++ bytes ≡ r.pending ++ b ∷ bytes = append_assoc r.pending (b ∷ []) bytes in
    ap (λ (q : Reading). read_on q bytes) (byte_waits r b fine front) ∙ waits_on bytes r' fine (rw same short)
    ∙ ap (λ (xs : List ℕ). record r { pending = xs }) same

-- a step does not depend on how its bytes came
stepped_same : (judgement : Result (Unit {0}) CodecCause) (r : Reading) (xs bytes : List ℕ) →
    stepped_if judgement (record r { pending = xs }) bytes ≡ stepped_if judgement r bytes
stepped_same (Ok _) r xs bytes = refl
stepped_same (Err cause) r xs bytes = refl

pub stepped_alike : (r : Reading) (xs bytes : List ℕ) → stepped (record r { pending = xs }) bytes ≡ stepped r bytes
stepped_alike r xs bytes = stepped_same (judged (stage_checks r.progress.stage r.progress bytes)) r xs bytes

-- the bytes up to the end of a step
pub steps_on : (bytes : List ℕ) (r : Reading) → r.fault ≡ None →
    length r.pending < stage_len r.progress.header r.progress.stage
    → length (r.pending ++ bytes) ≡ stage_len r.progress.header r.progress.stage →
    read_on r bytes ≡ stepped r (r.pending ++ bytes)
steps_on [] r fine part len = absurd (omega (arith, length-append r.pending []))
steps_on (b ∷ []) r fine part len = byte_ends r b fine (omega (arith, len))
steps_on (b ∷ c ∷ bytes) r fine part len =
    let front : length (r.pending ++ b ∷ []) < stage_len r.progress.header r.progress.stage =
    omega (arith, len, length-append r.pending (b ∷ []), length-append r.pending (b ∷ c ∷ bytes)) in
    let r' : Reading = record r { pending = r.pending ++ b ∷ [] } in
    let same : (r.pending ++ b ∷ []) ++ c ∷ bytes ≡ r.pending ++ b ∷ c ∷ bytes =
    append_assoc r.pending (b ∷ []) (c ∷ bytes) in
    ap (λ (q : Reading). read_on q (c ∷ bytes)) (byte_waits r b fine front)
    ∙ steps_on (c ∷ bytes) r' fine front (rw same len)
    ∙ stepped_alike r (r.pending ++ b ∷ []) ((r.pending ++ b ∷ []) ++ c ∷ bytes) ∙ ap (stepped r) same

-- ---- a part of a piece

-- what a step still lacks
abbrev pub lacks : Reading → ℕ
lacks r = stage_len r.progress.header r.progress.stage - length r.pending

pub part_waits : (old new : Reading) (rest : List ℕ) → old.fault ≡ None → 0 < length rest → length rest < lacks old →
    new ≡ record old { pending = old.pending ++ rest }
    → TakesPart old rest (Ok (length rest)) new
part_waits old new rest fine some short is =
    let on : read_on old rest ≡ record old { pending = old.pending ++ rest } =
    waits_on rest old fine (omega (arith, length-append old.pending rest)) in (
      some,
      omega arith,
      is ∙ sym on ∙ ap (read_on old) (sym (take-length rest)),
      ap (λ (q : Reading). q.fault)
          is ∙ fine,
    )

-- the bytes of the step, those that waited in front
abbrev pub whole_of : Reading → List ℕ → List ℕ
whole_of old rest = old.pending ++ take (lacks old) rest

abbrev pub emptied : Reading → Reading
emptied r = record r { pending = [] }

part_reads : (old : Reading) (rest : List ℕ) → old.fault ≡ None →
    length old.pending < stage_len old.progress.header old.progress.stage → lacks old ≤ length rest
    → read_on old (take (lacks old) rest) ≡ stepped old (whole_of old rest)
part_reads old rest fine part enough =
    let long = length-take-le (lacks old) rest enough in
    steps_on (take (lacks old) rest) old fine part (omega (
      arith,
      long,
      length-append old.pending
          (take (lacks old) rest),
    ))

-- the last byte of a step that gives something which could not be kept
unkept_refused : (old new : Reading) (rest : List ℕ) (fault : CodecFault) → old.fault ≡ None →
    length old.pending < stage_len old.progress.header old.progress.stage → lacks old ≤ length rest
    → IsUnkept (emptied old) (whole_of old rest) new fault → new.fault ≡ Some fault → WasRefused old rest new
unkept_refused old new rest fault fine part enough unkept failed =
    let before = lacks old - 1 in
    let bytes = whole_of old rest in
    let mid : Reading = record old { pending = old.pending ++ take before rest } in
    let long = length-take-le before rest (omega arith) in
    let mid_is : read_on old (take before rest) ≡ mid = waits_on (take before rest) old fine
    (omega (arith, long, length-append old.pending (take before rest))) in
    let lt : before < length rest = omega arith in
    let all : before + 1 ≡ lacks old = omega arith in
    let stepped_is : stepped old bytes ≡ past_step old (advanced old.progress.stage old.progress bytes).0
    (advanced old.progress.stage old.progress bytes).1 =
    ap (λ (j : Result (Unit {0}) CodecCause). stepped_if j old bytes) unkept.passes in
    let next : byte_read mid (get_or rest before 0) ≡ past_step old (advanced old.progress.stage old.progress bytes).0
    (advanced old.progress.stage old.progress bytes).1 =
    ap (λ (q : Reading). byte_read q (get_or rest before 0)) (sym mid_is) ∙ sym (read_on-more old rest before lt)
    ∙ ap (λ (n : ℕ). read_on old (take n rest)) all
    ∙ part_reads old rest fine part enough ∙ stepped_is in
    let one_more : HasOneMore mid (past_step old (advanced old.progress.stage old.progress bytes).0
    (advanced old.progress.stage old.progress bytes).1) =
    one_more_given old (advanced old.progress.stage old.progress bytes).0
    (advanced old.progress.stage old.progress bytes).1 unkept.gives_some in
    let refused : IsRefused mid (get_or rest before 0) new fault = record {
      cause = unkept.cause;
      offset = unkept.offset;
      in_hand = not_at_end old.progress.stage old.progress bytes old.progress.offset unkept.gives_some;
      passes = ap (λ (q : Reading). q.fault) next ∙ fine;
      one_more = rw next one_more;
      memory = unkept.memory;
      records = unkept.records;
      header = unkept.header;
    } in
    record {
      count = before;
      fault = fault;
      within = lt;
      failed = failed;
      refused = rw mid_is refused;
      fine =
          ap (λ (q : Reading). q.fault) mid_is ∙ fine;
    }

pub part_steps : (old new : Reading) (rest : List ℕ) → old.fault ≡ None →
    length old.pending < stage_len old.progress.header old.progress.stage → lacks old ≤ length rest
    → (u : Unit {0}) → TakesStep (emptied old) (whole_of old rest) (Ok u) new → TakesPart old rest (Ok (lacks old)) new
part_steps old new rest fine part enough u took = (
  omega arith,
  enough,
  took.0 ∙ stepped_alike old [] (whole_of old rest)
      ∙ sym (part_reads old rest fine part enough),
  took.1,
)

pub part_fails : (old new : Reading) (rest : List ℕ) (fault : CodecFault) → old.fault ≡ None →
    length old.pending < stage_len old.progress.header old.progress.stage → lacks old ≤ length rest
    → TakesStep (emptied old) (whole_of old rest) (Err fault) new → TakesPart old rest (Err fault) new
part_fails old new rest fault fine part enough took =
    elim took.1 [
      | inl same ↦
          let here : read_on old (take (lacks old) rest) ≡ new =
          part_reads old rest fine part enough ∙ sym (stepped_alike old [] (whole_of old rest)) ∙ sym same in
          let on : read_on old rest ≡ new =
          ap (read_on old) (sym (take-append-drop (lacks old) rest))
          ∙ read_on-append (take (lacks old) rest) (drop (lacks old) rest) old
          ∙ ap (λ (q : Reading). read_on q (drop (lacks old) rest)) here
          ∙ read_on-failed (drop (lacks old) rest) new fault took.0 in
          (took.0, inl (sym on))
      | inr unkept ↦ (took.0, inr (unkept_refused old new rest fault fine part enough unkept took.0))
    ]

-- the same, where the code's own number is what the step lacks
pub part_ends : (old new : Reading) (rest : List ℕ) (n : ℕ) → n ≡ lacks old → old.fault ≡ None →
    length old.pending < stage_len old.progress.header old.progress.stage → n ≤ length rest
    → (u : Unit {0}) → TakesStep (emptied old) (old.pending ++ take n rest) (Ok u) new → TakesPart old rest (Ok n) new
part_ends old new rest n is fine part enough u took =
    let own : TakesStep (emptied old) (whole_of old rest) (Ok u) new =
    subst (λ (m : ℕ). TakesStep (emptied old) (old.pending ++ take m rest) (Ok u) new) is took in
    subst (λ (m : ℕ). TakesPart old rest (Ok m) new) (sym is)
    (part_steps old new rest fine part (omega (arith, is, enough)) u own)

pub part_ends_badly : (old new : Reading) (rest : List ℕ) (n : ℕ) (fault : CodecFault) → n ≡ lacks old →
    old.fault ≡ None
    → length old.pending < stage_len old.progress.header old.progress.stage → n ≤ length rest
    → TakesStep (emptied old) (old.pending ++ take n rest) (Err fault) new → TakesPart old rest (Err fault) new
part_ends_badly old new rest n fault is fine part enough took =
    let own : TakesStep (emptied old) (whole_of old rest) (Err fault) new =
    subst (λ (m : ℕ). TakesStep (emptied old) (old.pending ++ take m rest) (Err fault) new) is took in
    part_fails old new rest fault fine part (omega (arith, is, enough)) own

-- ---- a piece, part by part

pub rest_is : (piece : List ℕ) (at : ℕ) → take (length piece - at) (drop at piece) ≡ drop at piece
rest_is piece at = take_all (length piece - at) (drop at piece) (omega (arith, length-drop at piece))

pub part_after : (r mid new : Reading) (piece : List ℕ) (at n : ℕ) → mid ≡ read_on r (take at piece) →
    new ≡ read_on mid (take n (drop at piece)) → new ≡ read_on r (take (at + n) piece)
part_after r mid new piece at n so_far took =
    took ∙ ap (λ (q : Reading). read_on q (take n (drop at piece))) so_far
    ∙ sym (read_on-append (take at piece) (take n (drop at piece)) r) ∙ ap (read_on r) (sym (take-add at n piece))

pub fault_after : (r mid new : Reading) (piece : List ℕ) (at : ℕ) → at ≤ length piece →
    mid ≡ read_on r (take at piece) → (new ≡ read_on mid (drop at piece))
    ⊎ WasRefused mid (drop at piece) new → (new ≡ read_on r piece) ⊎ WasRefused r piece new
fault_after r mid new piece at within so_far outcome =
    elim outcome [
      | inl same ↦ inl (same ∙ ap (λ (q : Reading). read_on q (drop at piece)) so_far
          ∙ sym (read_on-append (take at piece) (drop at piece) r) ∙ ap (read_on r) (take-append-drop at piece))
      | inr was ↦
          let there : read_on mid (take was.count (drop at piece)) ≡ read_on r (take (at + was.count) piece) =
          part_after r mid (read_on mid (take was.count (drop at piece))) piece at was.count so_far refl in
          let byte : get_or (drop at piece) was.count 0 ≡ get_or piece (at + was.count) 0 = rw get_or-drop refl in
          inr (record {
            count = at + was.count;
            fault = was.fault;
            within = omega (arith, was.within, length-drop at piece);
            failed = was.failed;
            refused = rw (← there, ← byte) was.refused;
            fine = ap (λ (q : Reading). q.fault) (sym there) ∙ was.fine;
          })
    ]
