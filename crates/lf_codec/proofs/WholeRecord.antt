-- An event record that stands whole in a piece is what its steps read.
use Rattle.std.proofs.Common.{◌≡◌, ℕ, ◌+◌, ◌<◌, ◌≤◌, List, [], ◌∷◌, ◌++◌, length, take, Option, None, Ok, refl, sym}
use Rattle.std.proofs.Common.{ap, subst, ◌∙◌, arith, append_assoc, inl, inr}
use Rattle.std.specs.Prelude.{◌==◌, false}
use Rattle.std.proofs.lemmas.Bool.{cases_Bool, eqb-true, eqb-false}
use Rattle.std.proofs.lemmas.List.{append-nil, nil_from_length, length-append, take-append-le}
use Rattle.std.proofs.Math.Seq.{take-length}
use Rattle.lf_rules.specs.Fits.{Bytes}
use Rattle.lf_rules.specs.declared.event.Record.{Record}
use Rattle.lf_codec.specs.declared.fault.CodecFault.{CodecFault}
use Rattle.lf_codec.specs.declared.stage.Found.{Found}
use Rattle.lf_codec.specs.declared.stage.Head.{Head}
use Rattle.lf_codec.specs.declared.stage.Stage.{Stage}
use Rattle.lf_codec.specs.declared.stage.Stage.TheVariants as stages
use Rattle.lf_codec.specs.declared.progress.Progress.{Progress}
use Rattle.lf_codec.specs.Checks.{byte_at, judged, head_checks, fixed_checks, stage_checks}
use Rattle.lf_codec.specs.Steps.{fixed_len, data_len, head_at, counted, record_of, past_head, advanced}
use Rattle.lf_codec.specs.Sound.{IsInRange, HasRoom, IsSoundAt, IsSound, most_data}
use Rattle.lf_codec.specs.Reading.{Reading, read_on, memory_in, records_in}
use Rattle.lf_codec.specs.Takes.{IsWholeHead, AreWholeParts, IsWholeRecord, TakesPart}
use Rattle.lf_codec.proofs.Soundness.{room_of_head, data_limit, most_data-le, fixed_len-le, sound_past_record}
use Rattle.lf_codec.proofs.EachKind.{no_data_behind}
use Rattle.lf_codec.proofs.Forward.{clean, step_read}

-- how many bytes the record has
abbrev pub whole_len : List ℕ → List ℕ → ℕ
whole_len fixed carried = 8 + length fixed + length carried

-- the head, the fixed part and the data stand at the front of these bytes, and their checks pass
pub record HasParts (p : Progress) (bytes : List ℕ) (head : Head) (fixed carried : List ℕ) : Type 0 where
  pub first : List ℕ
  pub more : List ℕ
  pub joined : bytes ≡ first ++ (fixed ++ (carried ++ more))
  pub first_whole : length first ≡ 8
  pub is_event : (byte_at 0 first == 0) ≡ false
  pub first_passes : judged (head_checks p.header p.counts first) ≡ Ok tt
  pub head_is : head ≡ head_at first
  pub fixed_whole : length fixed ≡ fixed_len p.header head.kind
  pub fixed_passes : judged (fixed_checks p.header head.bank head.kind fixed) ≡ Ok tt
  pub carried_whole : length carried ≡ data_len p.header head.kind fixed

-- ---- what is known of the record

module _ (p : Progress) (bytes : List ℕ) (head : Head) (fixed carried : List ℕ)
    (whole : HasParts p bytes head fixed carried) (range : IsInRange p.header) where
  pub whole_room : HasRoom p.header p.counts head.log
  whole_room = rw whole.head_is (room_of_head p.header p.counts whole.first range whole.first_passes)

  pub whole_few : length carried ≤ most_data p.header head.kind
  whole_few = omega (arith, whole.carried_whole, data_limit p.header head.bank head.kind fixed range whole.fixed_passes)

  pub whole_short : whole_len fixed carried ≤ 300
  whole_short = omega (
    arith,
    whole.fixed_whole,
    fixed_len-le p.header head.kind range,
    whole_few,
    most_data-le
        p.header head.kind range,
  )

  pub whole_taken : take (whole_len fixed carried) bytes ≡ whole.first ++ (fixed ++ carried)
  whole_taken =
      let joined : bytes ≡ (whole.first ++ (fixed ++ carried)) ++ whole.more =
      whole.joined ∙ ap (λ (xs : List ℕ). whole.first ++ xs) (sym (append_assoc fixed carried whole.more))
      ∙ sym (append_assoc whole.first (fixed ++ carried) whole.more) in
      let len : length (whole.first ++ (fixed ++ carried)) ≡ whole_len fixed carried =
      omega (arith, length-append whole.first (fixed ++ carried), length-append fixed carried, whole.first_whole)
      in
      ap (take (whole_len fixed carried)) joined ∙ take-append-le (whole_len fixed carried)
      (whole.first ++ (fixed ++ carried)) whole.more (omega (arith, len))
      ∙ ap (λ (n : ℕ). take n (whole.first ++ (fixed ++ carried))) (sym len)
      ∙ take-length (whole.first ++ (fixed ++ carried))

  whole_within : whole_len fixed carried ≤ length bytes
  whole_within =
      omega (
        arith,
        ap length whole.joined,
        length-append whole.first (fixed ++ (carried ++ whole.more)),
        length-append fixed (carried ++ whole.more),
        length-append carried whole.more,
        whole.first_whole,
      )

-- ---- its steps

-- the data
data_steps : (q : Progress) (memory : List (ℕ × Bytes)) (records : List Record) (head : Head) (fixed carried : List ℕ)
    → length carried ≡ data_len q.header head.kind fixed → 0 < length carried
    → let d : Progress = record q { stage = stages.Data head (record { items = fixed }) } in
    read_on (clean d memory records) carried ≡ clean (counted d (length carried) head.log) memory
    (records ++ record_of q.header head fixed carried ∷ [])
unfolding stage_checks advanced
data_steps q memory records head fixed carried whole some =
    let d : Progress = record q { stage = stages.Data head (record { items = fixed }) } in
    ap (read_on (clean d memory records)) (sym (append-nil carried))
    ∙ step_read d memory records carried [] some whole refl ∙ rw (append-nil memory) refl

-- nothing is carried
none_carried : (p : Progress) (memory : List (ℕ × Bytes)) (records : List Record) (head : Head)
    (fixed carried : List ℕ) (n : ℕ) → carried ≡ []
    → read_on (clean (counted p n head.log) memory (records ++ record_of p.header head fixed [] ∷ [])) carried
    ≡ clean (counted p (n + length carried) head.log) memory
    (records ++ record_of p.header head fixed carried ∷ [])
none_carried p memory records head fixed carried n empty =
    let same : n ≡ n + length carried = omega (arith, ap length empty) in
    ap (read_on (clean (counted p n head.log) memory (records ++ record_of p.header head fixed [] ∷ []))) empty
    ∙ ap (λ (m : ℕ). clean (counted p m head.log) memory (records ++ record_of p.header head fixed [] ∷ [])) same
    ∙ ap (λ (xs : List ℕ). clean (counted p (n + length carried) head.log) memory
    (records ++ record_of p.header head fixed xs ∷ [])) (sym empty)

-- a step of some bytes in front
moved_on : (p : Progress) (memory : List (ℕ × Bytes)) (records : List Record) (n m k log : ℕ) → n + m ≡ k
    → clean (counted (record p { position = p.position + n }) m log) memory records
    ≡ clean (counted p k log) memory records
moved_on p memory records n m k log e =
    let same : p.position + n + m ≡ p.position + k = omega (arith, e) in
    ap (λ (at : ℕ). clean (record (counted p 0 log) { position = at; offset = at }) memory records) same

-- the fixed part and the data
fixed_steps : (q : Progress) (memory : List (ℕ × Bytes)) (records : List Record) (head : Head)
    (fixed carried : List ℕ) → length fixed ≡ fixed_len q.header head.kind → 0 < length fixed
    → judged (fixed_checks q.header head.bank head.kind fixed) ≡ Ok tt →
    length carried ≡ data_len q.header head.kind fixed
    → let p : Progress = record q { stage = stages.Fixed head } in
    read_on (clean p memory records) (fixed ++ carried) ≡ clean (counted p (length fixed + length carried) head.log)
    memory (records ++ record_of q.header head fixed carried ∷ [])
unfolding stage_checks advanced
fixed_steps q memory records head fixed carried whole some passes carried_whole =
    let p : Progress = record q { stage = stages.Fixed head } in
    let first = step_read p memory records fixed carried some whole passes in
    elim (cases_Bool (data_len q.header head.kind fixed == 0)) [
      | inl none ↦
          let empty : carried ≡ [] = nil_from_length carried (carried_whole ∙ eqb-true _ _ none) in
          let past : read_on (clean p memory records) (fixed ++ carried)
          ≡ read_on (clean (counted p (length fixed) head.log) memory
          (records ++ record_of q.header head fixed [] ∷ [])) carried =
          first ∙ rw (none, append-nil memory) refl in
          past ∙ none_carried p memory records head fixed carried (length fixed) empty
      | inr more ↦
          let q' : Progress = record q { position = q.position + length fixed } in
          let d : Progress = record q' { stage = stages.Data head (record { items = fixed }) } in
          let carries : 0 < length carried = omega (arith, carried_whole, eqb-false _ _ more) in
          let past : read_on (clean p memory records) (fixed ++ carried) ≡ read_on (clean d memory records) carried =
          first ∙ rw (more, append-nil memory, append-nil records) refl in
          past ∙ data_steps q' memory records head fixed carried carried_whole carries
          ∙ moved_on p memory (records ++ record_of q.header head fixed carried ∷ []) (length fixed) (length carried)
          (length fixed + length carried) head.log refl
    ]

-- behind the head
steps_behind : (q : Progress) (memory : List (ℕ × Bytes)) (records : List Record) (head : Head)
    (fixed carried : List ℕ) → length fixed ≡ fixed_len q.header head.kind
    → judged (fixed_checks q.header head.bank head.kind fixed) ≡ Ok tt →
    length carried ≡ data_len q.header head.kind fixed
    → let p : Progress = record q { stage = stages.Head } in let next = past_head p head in
    read_on (clean next.0 (memory ++ memory_in next.1) (records ++ records_in next.1)) (fixed ++ carried)
    ≡ clean (counted p (whole_len fixed carried) head.log) memory
    (records ++ record_of q.header head fixed carried ∷ [])
steps_behind q memory records head fixed carried whole passes carried_whole =
    let p : Progress = record q { stage = stages.Head } in
    let next = past_head p head in
    elim (cases_Bool (fixed_len q.header head.kind == 0)) [
      | inl none ↦
          let no_fixed : fixed ≡ [] = nil_from_length fixed (whole ∙ eqb-true _ _ none) in
          let empty : carried ≡ [] = nil_from_length carried
          (carried_whole ∙ no_data_behind q.header head.kind fixed (eqb-true _ _ none)) in
          let past : read_on (clean next.0 (memory ++ memory_in next.1) (records ++ records_in next.1))
          (fixed ++ carried) ≡ read_on
          (clean (counted p 8 head.log) memory (records ++ record_of q.header head [] [] ∷ [])) (fixed ++ carried) =
          rw (none, append-nil memory) refl in
          let short : 8 + length carried ≡ whole_len fixed carried = omega (arith, ap length no_fixed) in
          past ∙ ap (λ (xs : List ℕ). read_on (clean (counted p 8 head.log) memory
          (records ++ record_of q.header head [] [] ∷ [])) (xs ++ carried)) no_fixed
          ∙ none_carried p memory records head [] carried 8 empty
          ∙ ap (λ (n : ℕ). clean (counted p n head.log) memory (records ++ record_of q.header head [] carried ∷ []))
          short
          ∙ ap (λ (xs : List ℕ). clean (counted p (whole_len fixed carried) head.log) memory
          (records ++ record_of q.header head xs carried ∷ [])) (sym no_fixed)
      | inr more ↦
          let q' : Progress = record q { position = q.position + 8 } in
          let f : Progress = record q' { stage = stages.Fixed head } in
          let some : 0 < length fixed = omega (arith, whole, eqb-false _ _ more) in
          let past : read_on (clean next.0 (memory ++ memory_in next.1) (records ++ records_in next.1))
          (fixed ++ carried) ≡ read_on (clean f memory records) (fixed ++ carried) =
          rw (more, append-nil memory, append-nil records) refl in
          let total : 8 + (length fixed + length carried) ≡ whole_len fixed carried = omega arith in
          past ∙ fixed_steps q' memory records head fixed carried whole some passes carried_whole
          ∙ moved_on p memory (records ++ record_of q.header head fixed carried ∷ []) 8
          (length fixed + length carried) (whole_len fixed carried) head.log total
    ]

-- the head and what is behind it
head_steps : (q : Progress) (memory : List (ℕ × Bytes)) (records : List Record) (bytes : List ℕ) (head : Head)
    (fixed carried : List ℕ)
    → let p : Progress = record q { stage = stages.Head } in
    (whole : HasParts p bytes head fixed carried)
    → read_on (clean p memory records) (whole.first ++ (fixed ++ carried))
    ≡ clean (counted p (whole_len fixed carried) head.log) memory
    (records ++ record_of q.header head fixed carried ∷ [])
unfolding stage_checks advanced
head_steps q memory records bytes head fixed carried whole =
    let p : Progress = record q { stage = stages.Head } in
    let first = step_read p memory records whole.first (fixed ++ carried) (omega (arith, whole.first_whole))
    whole.first_whole (rw whole.is_event whole.first_passes) in
    let event : advanced stages.Head p whole.first ≡ past_head p (head_at whole.first) = rw whole.is_event refl in
    let next : advanced stages.Head p whole.first ≡ past_head p head = event ∙ ap (past_head p) (sym whole.head_is) in
    first ∙ ap (λ (x : Progress × Found). read_on (clean x.0 (memory ++ memory_in x.1) (records ++ records_in x.1))
    (fixed ++ carried)) next
    ∙ steps_behind q memory records head fixed carried whole.fixed_whole whole.fixed_passes whole.carried_whole

-- between two steps the header is in range
pub range_at : (p : Progress) → p.stage ≡ stages.Head → IsSound p → IsInRange p.header
range_at p at sound = subst (λ (s : Stage). IsSoundAt s p) at sound.at_stage

-- ---- the record at once

module _ (p : Progress) (at : p.stage ≡ stages.Head) (bytes : List ℕ) (head : Head) (fixed carried : List ℕ)
    (whole : HasParts p bytes head fixed carried) (sound : IsSound p) where
  pub range_here : IsInRange p.header
  range_here = range_at p at sound

  same_here : p ≡ record p { stage = stages.Head }
  same_here = ap (λ (s : Stage). record p { stage = s }) at

  pub whole_sound : IsSound (counted p (whole_len fixed carried) head.log)
  whole_sound =
      let own : IsSound (record p { stage = stages.Head }) = subst IsSound same_here sound in
      sound_past_record p (whole_len fixed carried) (record_of p.header head fixed carried) sound range_here
      (whole_room p bytes head fixed carried whole range_here) own.offset_limit
      (omega (arith, own.position_limit, whole_short p bytes head fixed carried whole range_here))

  pub whole_taken_in : (memory : List (ℕ × Bytes)) (records : List Record)
      → TakesPart (clean p memory records) bytes (Ok (whole_len fixed carried))
      (clean (counted p (whole_len fixed carried) head.log) memory
      (records ++ record_of p.header head fixed carried ∷ []))
  whole_taken_in memory records =
      let own : HasParts (record p { stage = stages.Head }) bytes head fixed carried =
      subst (λ (q : Progress). HasParts q bytes head fixed carried) same_here whole in
      let steps : read_on (clean p memory records) (take (whole_len fixed carried) bytes)
      ≡ clean (counted p (whole_len fixed carried) head.log) memory
      (records ++ record_of p.header head fixed carried ∷ []) =
      ap (read_on (clean p memory records)) (whole_taken (record p { stage = stages.Head }) bytes head fixed carried
      own range_here)
      ∙ ap (λ (q : Progress). read_on (clean q memory records) (own.first ++ (fixed ++ carried))) same_here
      ∙ head_steps p memory records bytes head fixed carried own in
      (omega arith, whole_within p bytes head fixed carried whole range_here, sym steps, refl)

-- ---- a record that stands whole

-- the record whose parts stand whole
module _ (p : Progress) (bytes rest fixed carried : List ℕ) (head : Head) (front : IsWholeHead p bytes head rest)
    (parts : AreWholeParts p.header head.kind head.bank rest fixed carried) where
  pub whole_record : IsWholeRecord p bytes (record_of p.header head fixed carried) (8 + length fixed + length carried)
  whole_record = record {
    head = head;
    rest = rest;
    fixed = fixed;
    carried = carried;
    at_front = front;
    behind = parts;
    item_is = refl;
    len_is = refl;
  }

module _ (p : Progress) (bytes : List ℕ) (item : Record) (len : ℕ) (whole : IsWholeRecord p bytes item len) where
  pub parts_of : HasParts p bytes whole.head whole.fixed whole.carried
  parts_of = record {
    first = whole.at_front.first;
    more = whole.behind.more;
    joined = whole.at_front.joined ∙ ap (λ (xs : List ℕ). whole.at_front.first ++ xs) whole.behind.joined;
    first_whole = whole.at_front.first_whole;
    is_event = whole.at_front.is_event;
    first_passes = whole.at_front.first_passes;
    head_is = whole.at_front.head_is;
    fixed_whole = whole.behind.fixed_whole;
    fixed_passes = whole.behind.fixed_passes;
    carried_whole = whole.behind.carried_whole;
  }

  pub log_of : item.log ≡ whole.head.log
  log_of = ap (λ (r : Record). r.log) whole.item_is

  module _ (at : p.stage ≡ stages.Head) (sound : IsSound p) where
    pub log_exists : item.log < 32
    log_exists = rw log_of (whole_room p bytes whole.head whole.fixed whole.carried parts_of
        (range_here p at bytes whole.head whole.fixed whole.carried parts_of sound)).exists

    pub few_bytes : len ≤ 300
    few_bytes = rw whole.len_is (whole_short p bytes whole.head whole.fixed whole.carried parts_of
        (range_at p at sound))

    pub room_behind : p.position + len < 0x1_0000_0000_0000_0000
    room_behind =
        let own : IsSound (record p { stage = stages.Head }) =
        subst IsSound (ap (λ (s : Stage). record p { stage = s }) at) sound in
        omega (arith, own.position_limit, own.offset_limit, own.count_limit, own.least_limit, few_bytes)

    pub len_within : len ≤ length bytes
    len_within = rw whole.len_is (whole_within p bytes whole.head whole.fixed whole.carried parts_of
        (range_at p at sound))

    pub sound_behind : IsSound (counted p len item.log)
    sound_behind = rw (log_of, whole.len_is) (whole_sound p at bytes whole.head whole.fixed whole.carried parts_of
        sound)

-- the same of any reading between two steps
pub taken_at_once : (r new : Reading) (bytes : List ℕ) (item : Record) (len : ℕ) → r.fault ≡ None → r.pending ≡ [] →
    r.progress.stage ≡ stages.Head
    → IsWholeRecord r.progress bytes item len → IsSound r.progress
    → new ≡ record r { progress = counted r.progress len item.log; records = r.records ++ item ∷ [] }
    → TakesPart r bytes (Ok len) new
taken_at_once r new bytes item len fine empty at whole sound is =
    let p = r.progress in
    let bare : r ≡ clean p r.memory r.records = ap (λ (xs : List ℕ). record r { pending = xs }) empty
    ∙ ap (λ (f : Option CodecFault). record r { pending = []; fault = f }) fine in
    let took = whole_taken_in p at bytes whole.head whole.fixed whole.carried (parts_of p bytes item len whole) sound
    r.memory r.records in
    let own : clean (counted p len item.log) r.memory (r.records ++ item ∷ [])
    ≡ clean (counted p (whole_len whole.fixed whole.carried) whole.head.log) r.memory
    (r.records ++ record_of p.header whole.head whole.fixed whole.carried ∷ []) =
    ap (λ (n : ℕ). clean (counted p n item.log) r.memory (r.records ++ item ∷ [])) whole.len_is
    ∙ ap (λ (log : ℕ). clean (counted p (whole_len whole.fixed whole.carried) log) r.memory (r.records ++ item ∷ []))
    (log_of p bytes item len whole)
    ∙ ap (λ (i : Record). clean (counted p (whole_len whole.fixed whole.carried) whole.head.log) r.memory
    (r.records ++ i ∷ [])) whole.item_is in
    let after : new ≡ clean (counted p len item.log) r.memory (r.records ++ item ∷ []) =
    is ∙ ap (λ (q : Reading). record q { progress = counted p len item.log; records = r.records ++ item ∷ [] }) bare in
    let kept : TakesPart (clean p r.memory r.records) bytes (Ok len)
    (clean (counted p len item.log) r.memory (r.records ++ item ∷ [])) =
    subst (λ (n : ℕ). TakesPart (clean p r.memory r.records) bytes (Ok n)
    (clean (counted p len item.log) r.memory (r.records ++ item ∷ []))) (sym whole.len_is)
    (subst (λ (q : Reading). TakesPart (clean p r.memory r.records) bytes (Ok (whole_len whole.fixed whole.carried))
    q) (sym own) took) in (
      kept.0,
      kept.1,
      after ∙ kept.2 ∙ ap (λ (q : Reading). read_on q (take len bytes)) (sym bare),
      ap
          (λ (q : Reading). q.fault) after,
    )
