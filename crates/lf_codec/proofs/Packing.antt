-- Records that are kept where they stand: more bytes change none of them.
use Rattle.std.proofs.Common.{◌≡◌, ℕ, zero, suc, ◌+◌, ◌<◌, ◌≤◌, get_or, List, [], ◌∷◌, ◌++◌, length, take, drop, refl}
use Rattle.std.proofs.Common.{sym, ap, subst, ◌∙◌}
use Rattle.std.proofs.Common.{arith, append_assoc}
use Rattle.std.proofs.Common.{Result, Ok, Err, Option, Some, None, inl, inr}
use Rattle.std.specs.Prelude.{slice_index, IfOk, IfSome, OnOk}
use Rattle.std.proofs.lemmas.List.{drop-append-le, take-append-le, take-append-drop, length-drop, length-append}
use Rattle.std.proofs.lemmas.List.{append-nil, get_or-map, length-map}
use Rattle.lf_rules.specs.declared.event.Record.{Record}
use Rattle.lf_codec.specs.declared.header.Header.{Header}
use Rattle.lf_codec.specs.declared.packed.Form.{Form}
use Rattle.lf_codec.specs.declared.packed.Form.TheVariants as forms
use Rattle.lf_codec.specs.declared.progress.Progress.{Progress}
use Rattle.lf_codec.specs.Steps.{counted}
use Rattle.lf_codec.specs.Sound.{IsSound, IsSoundReader}
use Rattle.lf_codec.specs.declared.fault.CodecFault.{CodecFault}
use Rattle.lf_codec.specs.Reading.{Reading, read_on, byte_read, with_front}
use Rattle.lf_codec.specs.Takes.{IsRefused, WasRefused, TakesPart, PacksPart, PacksInto, MayPack}
use Rattle.lf_codec.specs.Takes.{HasReadOn, cut_short}
use Rattle.lf_codec.proofs.Parts.{part_after, fault_after}
use Rattle.lf_codec.proofs.Pieces.{read_on-with_front}
use Rattle.lf_codec.proofs.Soundness.{sound_reader}
use Rattle.lf_codec.proofs.WholeRecord.{sound_behind, taken_at_once}
use Rattle.lf_codec.specs.Lent.{spelled_record}
use Rattle.lf_codec.specs.Packed.{PackedRecords, SpellOne, StandLast, slice_of, form_record, IsWithin}
use Rattle.lf_codec.specs.Packed.{records_in_forms, AreWithin}

slice_stays : (bytes more : List ℕ) (at len : ℕ) → at + len ≤ length bytes →
    slice_of (bytes ++ more) at len ≡ slice_of bytes at len
slice_stays bytes more at len fits =
    ap (take len) (drop-append-le at bytes more (omega (arith, fits)))
    ∙ take-append-le len (drop at bytes) more (omega (arith, fits, length-drop at bytes))

form_stays : (h : Header) (bytes more : List ℕ) (form : Form) → IsWithin h bytes form →
    form_record h (bytes ++ more) form ≡ form_record h bytes form
form_stays h bytes more (forms.Spelled start len) within =
    ap (spelled_record h) (slice_stays bytes more start len within.0)
form_stays h bytes more (forms.Apart r) within = refl

within_stays : (h : Header) (bytes more : List ℕ) (form : Form) → IsWithin h bytes form →
    IsWithin h (bytes ++ more) form
within_stays h bytes more (forms.Spelled start len) within = (
  omega (arith, within.0, length-append bytes more),
  subst (SpellOne h) (sym (slice_stays bytes more start len within.0)) within.1,
)
within_stays h bytes more (forms.Apart r) within = tt

pub records_stay : (h : Header) (bytes more : List ℕ) (all : List Form) → AreWithin h bytes all →
    records_in_forms h (bytes ++ more) all ≡ records_in_forms h bytes all
records_stay h bytes more [] within = refl
records_stay h bytes more (form ∷ all) within =
    ap (λ (r : Record). r ∷ records_in_forms h (bytes ++ more) all) (form_stays h bytes more form within.0)
    ∙ ap (λ (rs : List Record). form_record h bytes form ∷ rs) (records_stay h bytes more all within.1)

pub within_stay : (h : Header) (bytes more : List ℕ) (all : List Form) → AreWithin h bytes all →
    AreWithin h (bytes ++ more) all
within_stay h bytes more [] within = tt
within_stay h bytes more (first ∷ all) within = (
  within_stays h bytes more first within.0,
  within_stay h bytes more
      all within.1,
)

-- ---- a record at a place

within_at : (h : Header) (bytes : List ℕ) (all : List Form) (i : ℕ) (d : Form) → i < length all →
    AreWithin h bytes all → IsWithin h bytes (get_or all i d)
within_at h bytes [] i d below within = absurd (omega arith)
within_at h bytes (form ∷ all) zero d below within = within.0
within_at h bytes (form ∷ all) (suc i) d below within = within_at h bytes all i d (omega arith) within.1

-- the record at a place is the one that these bytes spell
pub record StandsIn (h : Header) (own : List ℕ) (records : List Record) (i : ℕ) : Type 0 where
  pub one : SpellOne h own
  pub is : (d : Record) → spelled_record h own ≡ get_or records i d

pub stands_in : (v : PackedRecords) (h : Header) (bytes : List ℕ) (all : List Form) (i : ℕ) (form : Form)
    (start len : ℕ) (own : List ℕ) →
    record { header = h; bytes = bytes; records = records_in_forms h bytes all } ≡ v
    → AreWithin h bytes all → i < length v.records → form ≡ get_or all i form
    → form ≡ forms.Spelled start len → own ≡ slice_of bytes start len → StandsIn h own v.records i
stands_in v h bytes all i form start len own view within below found spelled slice =
    let inside : i < length all = omega (
      arith,
      length-map all (form_record h bytes),
      ap (λ (p : PackedRecords). length p.records) view,
      below,
    )
    in
    let here : IsWithin h bytes (forms.Spelled start len) =
    subst (IsWithin h bytes) (sym found ∙ spelled) (within_at h bytes all i form inside within) in
    record {
      one = subst (SpellOne h) (sym slice) here.1;
      is = λ (d : Record). ap (spelled_record h) slice ∙ ap (form_record h bytes) (sym spelled ∙ found)
          ∙ sym (get_or-map (form_record h bytes) all i form d inside)
          ∙ ap (λ (p : PackedRecords). get_or p.records i d) view;
    }

-- ---- the last bytes

-- those behind the first ones of the last are the last too
pub last_behind : (bytes last front rest : List ℕ) → StandLast bytes last → last ≡ front ++ rest → StandLast bytes rest
last_behind bytes last front rest stand joined = record {
  front = stand.front ++ front;
  joined = stand.joined ∙ ap (λ (xs : List ℕ). stand.front ++ xs) joined ∙ sym (append_assoc stand.front front rest);
}

pub last_drop : (bytes last : List ℕ) (n : ℕ) → StandLast bytes last → StandLast bytes (drop n last)
last_drop bytes last n stand = last_behind bytes last (take n last) (drop n last) stand (sym (take-append-drop n last))

-- ---- what stands in front changes nothing of what a step does

front_refused : (rs : List Record) (old : Reading) (b : ℕ) (new : Reading) (fault : CodecFault) →
    IsRefused old b new fault → IsRefused (with_front [] rs old) b (with_front [] rs new) fault
front_refused rs old b new fault refused =
    let next : byte_read (with_front [] rs old) b ≡ with_front [] rs (byte_read old b) =
    read_on-with_front (b ∷ []) [] rs old in
    record {
      cause = refused.cause;
      offset = refused.offset;
      in_hand = refused.in_hand;
      passes = ap (λ (r : Reading). r.fault) next ∙ refused.passes;
      one_more = rw next (omega (
        arith,
        refused.one_more,
        length-append rs (byte_read old b).records,
        length-append rs
            old.records,
      ));
      memory = refused.memory;
      records = ap (λ (xs : List Record). rs ++ xs) refused.records;
      header = refused.header;
    }

front_was_refused : (rs : List Record) (old : Reading) (bytes : List ℕ) (new : Reading) → WasRefused old bytes new →
    WasRefused (with_front [] rs old) bytes (with_front [] rs new)
front_was_refused rs old bytes new was =
    let before = read_on-with_front (take was.count bytes) [] rs old in
    record {
      count = was.count;
      fault = was.fault;
      within = was.within;
      failed = was.failed;
      refused = rw before (front_refused rs (read_on old (take was.count bytes)) (slice_index bytes was.count) new
          was.fault was.refused);
      fine = ap (λ (r : Reading). r.fault) before ∙ was.fine;
    }

pub front_takes : (rs : List Record) (old : Reading) (bytes : List ℕ) (answer : Result ℕ CodecFault) (new : Reading) →
    TakesPart old bytes answer new
    → TakesPart (with_front [] rs old) bytes answer (with_front [] rs new)
front_takes rs old bytes (Ok n) new took = (
  took.0,
  took.1,
  ap (with_front [] rs) took.2
      ∙ sym (read_on-with_front (take n bytes) [] rs old),
  took.3,
)
front_takes rs old bytes (Err fault) new took = (
  took.0,
  elim took.1 [
    | inl read ↦ inl (ap (with_front [] rs) read ∙ sym (read_on-with_front bytes [] rs old))
    | inr was ↦ inr (front_was_refused rs old bytes new was)
  ],
)

-- those that wait with the reader go behind those in front
pub front_moved : (rs : List Record) (r : Reading) → with_front [] rs r
    ≡ with_front [] (rs ++ r.records) (record r { records = [] })
front_moved rs r = ap (λ (xs : List Record). record r { records = xs }) (sym (append-nil (rs ++ r.records)))

-- ---- a record that is kept at once

module _ (p q : Progress) (bytes : List ℕ) (before after : List Record) where
  pub packed_sound : (found : Option ℕ) (pending : List ℕ) → MayPack p bytes found before after q → pending ≡ [] →
      IsSoundReader p pending → IsSoundReader q pending
  packed_sound (Some n) pending into empty sound =
      rw (empty, into.is_counted) (sound_reader (counted p n into.item.log)
      (sound_behind p bytes into.item n into.whole into.stage sound.sound))
  packed_sound None pending none empty sound = subst (λ (x : Progress). IsSoundReader x pending) (sym none.0) sound

  pub on_packed : (P : ℕ → Type 0) (found : Option ℕ) → MayPack p bytes found before after q →
      ((n : ℕ) → PacksInto p bytes n before after q → P n) → IfSome found P
  on_packed P (Some n) into each = each n into
  on_packed P None none each = tt

  pub packed_header : (found : Option ℕ) → MayPack p bytes found before after q → q.header ≡ p.header
  packed_header (Some n) into = ap (λ (x : Progress). x.header) into.is_counted
  packed_header None none = ap (λ (x : Progress). x.header) none.0

-- the reading with the record behind those in front
pub packed_takes : (r new : Reading) (bytes : List ℕ) (n : ℕ) (before after : List Record) →
    PacksInto r.progress bytes n before after new.progress
    → r.fault ≡ None → r.pending ≡ [] → r.records ≡ [] → IsSound r.progress → new ≡ record r { progress = new.progress }
    → TakesPart (with_front [] before r) bytes (Ok n) (with_front [] after new)
packed_takes r new bytes n before after into fine empty none sound same =
    let behind : after ++ r.records ≡ (before ++ r.records) ++ into.item ∷ [] =
    ap (λ (rs : List Record). after ++ rs) none ∙ append-nil after ∙ into.is_kept
    ∙ ap (λ (rs : List Record). rs ++ into.item ∷ []) (sym (ap (λ (rs : List Record). before ++ rs) none
    ∙ append-nil before)) in
    let is : with_front [] after new ≡ record (with_front [] before r)
    { progress = counted r.progress n into.item.log; records = (before ++ r.records) ++ into.item ∷ [] } =
    ap (with_front [] after) same
    ∙ ap (λ (q : Progress). with_front [] after (record r { progress = q })) into.is_counted
    ∙ ap (λ (rs : List Record). record r { progress = counted r.progress n into.item.log; records = rs }) behind in
    taken_at_once (with_front [] before r) (with_front [] after new) bytes into.item n fine empty into.stage
    into.whole sound is

-- what the bytes behind some of a piece do
pub on_after : (r mid new : Reading) (piece : List ℕ) (at : ℕ) → at ≤ length piece → mid ≡ read_on r (take at piece) →
    HasReadOn mid (drop at piece) new → HasReadOn r piece new
on_after r mid new piece at within so_far outcome =
    elim outcome [
      | inl read ↦ inl (fault_after r mid new piece at within so_far read)
      | inr was ↦
          let there : read_on mid (take was.count (drop at piece)) ≡ read_on r (take (at + was.count) piece) =
          part_after r mid (read_on mid (take was.count (drop at piece))) piece at was.count so_far refl in
          inr (record {
            count = at + was.count;
            within = omega (arith, was.within, length-drop at piece);
            fine = ap (λ (q : Reading). q.fault) (sym there) ∙ was.fine;
            is = was.is ∙ ap cut_short there;
          })
    ]

-- nothing of the bytes is read
pub cut_at_once : (r new : Reading) (bytes : List ℕ) → r.fault ≡ None → new ≡ cut_short r → HasReadOn r bytes new
cut_at_once r new bytes fine is = inr (record { count = 0; within = omega arith; fine = fine; is = is })

-- a part that is taken from the bytes, with what the caller has in front
pub part_fails_in_front : (rs : List Record) (old new : Reading) (bytes : List ℕ) (fault : CodecFault) →
    TakesPart old bytes (Err fault) new
    → PacksPart (with_front [] rs old) bytes (Err fault) (with_front [] rs new)
part_fails_in_front rs old new bytes fault took = let front = front_takes rs old bytes (Err fault) new took in
    (front.0, inl front.1)

-- ... and whose record is moved
pub part_moved : (rs : List Record) (old mid : Reading) (bytes : List ℕ) (n : ℕ) (whole new : Reading) →
    TakesPart old bytes (Ok n) mid → whole ≡ with_front [] rs mid → new ≡ whole
    → TakesPart (with_front [] rs old) bytes (Ok n) new
part_moved rs old mid bytes n whole new took is moved =
    subst (TakesPart (with_front [] rs old) bytes (Ok n)) (sym (moved ∙ is)) (front_takes rs old bytes (Ok n) mid took)

pub part_cut : (rs : List Record) (old mid : Reading) (bytes : List ℕ) (n : ℕ) (fault : CodecFault)
    (whole new : Reading) → TakesPart old bytes (Ok n) mid → whole ≡ with_front [] rs mid
    → new ≡ cut_short whole → new.fault ≡ Some fault → PacksPart (with_front [] rs old) bytes (Err fault) new
part_cut rs old mid bytes n fault whole new took is cut told =
    let front = front_takes rs old bytes (Ok n) mid took in (
      told,
      inr (record {
        count = n;
        within = front.1;
        fine =
            ap (λ (r : Reading). r.fault) (sym front.2) ∙ front.3;
        is = cut ∙ ap cut_short (is ∙ front.2);
      }),
    )

-- what follows of both answers, where there is one
pub both : {A F : Type 0} {P S : A → Type 0} {Q : Type 0} (result : Result A F) → IfOk result P → OnOk result Q →
    ((a : A) → P a → Q → S a) → IfOk result S
both (Ok a) p q each = each a p q
both (Err refused) p q each = tt

pub then : {A F : Type 0} {Q S : Type 0} (result : Result A F) → OnOk result Q → (Q → S) → OnOk result S
then (Ok a) q each = each q
then (Err refused) q each = tt
