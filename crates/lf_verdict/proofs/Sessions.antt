-- What a session takes from its reader, and what it answers.
use Rattle.std.proofs.Common.{◌≡◌, ℕ, ◌-◌, ◌<◌, ◌≤◌, List, [], ◌∷◌, ◌++◌, length, Option, Some, None, Ok, Err, refl}
use Rattle.std.proofs.Common.{Bool, sym, ap, ◌∙◌, subst, ◌⊎◌, inl, inr, ⊎_elim, ◌^◌, append_assoc, arith}
use Rattle.std.specs.Prelude.{◌==◌, slice_index, OnOk, Result}
use Rattle.std.specs.List.{AllByRecursion}
use Rattle.std.proofs.lemmas.List.{append-nil, length-append, take-append-le, get_or_append_left, get_or-append_right}
use Rattle.std.proofs.lemmas.List.Elements.{filter-append}
use Rattle.std.proofs.lemmas.Bool.{cond-true, eq-eqb}
use Rattle.lf_rules.specs.declared.shape.Shape.{Shape}
use Rattle.lf_rules.specs.declared.event.Record.{Record}
use Rattle.lf_rules.specs.Address.{flat_memory}
use Rattle.lf_rules.specs.Fits.{Bytes}
use Rattle.lf_rules.specs.Run.{of_log}
use Rattle.lf_codec.specs.declared.header.Header.{Header}
use Rattle.lf_codec.specs.declared.fault.CodecFault.{CodecFault}
use Rattle.lf_codec.specs.declared.fault.Told.{Told}
use Rattle.lf_codec.specs.Laws.{WhatIsReadFits, ReadingIsExact, FaultsStand, HeaderIsOfItsBytes, header_if, AreBytes}
use Rattle.lf_codec.specs.Checks.{judged, header_checks}
use Rattle.lf_codec.specs.declared.fault.CodecCause.TheVariants.{NoMemory}
use Rattle.std.proofs.Common.{take}
use Rattle.std.proofs.lemmas.Bool.{cases_lt}
use Rattle.lf_verdict.proofs.Pieces.{fault_told, nothing_behind, reading_stop}
use Rattle.lf_verdict.proofs.Traces.{fits_shape}
use Rattle.lf_verdict.proofs.Answered.{limit_is_small}
use Rattle.lf_codec.specs.Reading.{Reading, reading_of, fault_so_far, header_now, header_of}
use Rattle.lf_codec.specs.Reader.{HasRead, RanOut, WantsMemory, told, fault_in, with_record}
use Rattle.lf_codec.specs.Trace.{IsTrace, FitsIn}
use Rattle.lf_verdict.specs.declared.answer.Outcome.TheVariants.{Refused}
use Rattle.lf_verdict.specs.declared.answer.HeaderField.{HeaderField}
use Rattle.lf_verdict.specs.declared.session.intake.Intake.{Intake}
use Rattle.lf_verdict.specs.declared.stop.Stop.{Stop}
use Rattle.lf_verdict.specs.declared.stop.Stop.TheVariants as stops
use Rattle.lf_verdict.specs.declared.session.standing.Standing.{Standing}
use Rattle.lf_verdict.specs.Legal.{Agrees, IsTraceFor}
use Rattle.lf_verdict.specs.inner.Judged.{IsOutcomeOrWant}
use Rattle.lf_verdict.specs.inner.Gathering.{IsFaultOrWant, IsStopOf}
use Rattle.lf_verdict.specs.Breaking.{first_offset}
use Rattle.lf_verdict.specs.Standing.{IsWatch, StandsAfterAll}
use Rattle.lf_verdict.specs.inner.Coming.{MayCome, MayAllCome, IsShort, logs_so_far}
use Rattle.lf_verdict.specs.Session.{IsOfAnotherHeader}
use Rattle.lf_verdict.specs.inner.Fed.{IsRunning, IsJudging, IsKept, HasJudged, HasFedUntil, HasTaken, HasFed}
use Rattle.lf_verdict.specs.inner.Fed.{IsStopIn}
use Rattle.lf_verdict.specs.Session.{CanTell, refusal_of, stop_told, IsRefusalSoFar}
use Rattle.lf_verdict.specs.inner.Taking.{IsLacking}
use Rattle.lf_verdict.specs.declared.answer.Refusal.{Refusal}
use Rattle.lf_codec.specs.declared.fault.Told.TheVariants as tolds
use Rattle.std.specs.Prelude.{IsSome}
use Rattle.lf_verdict.specs.declared.session.intake.Judging.{Judging}
use Rattle.lf_verdict.specs.declared.session.intake.Judging.TheVariants.{Waiting, Running, Another}
use Rattle.lf_rules.specs.InRange.{IsShape}
use Rattle.lf_verdict.specs.Outcome.{Differs, IsOfAnother}

-- ---- the next record may come

middle : (P : Record → Type 0) (xs : List Record) (r : Record) (ys : List Record) → AllByRecursion P (xs ++ r ∷ ys) →
    P r
middle P [] r ys all = all.0
middle P (x ∷ xs) r ys all = middle P xs r ys all.1

one_of_log : (xs : List Record) (r : Record) (ys : List Record) →
    length (of_log r.log xs) < length (of_log r.log (xs ++ r ∷ ys))
one_of_log xs r ys =
    let whole = filter-append (λ (x : Record). x.log == r.log) xs (r ∷ ys) in
    let own = cond-true (r.log == r.log) (r ∷ of_log r.log ys) (of_log r.log ys) (eq-eqb r.log r.log refl) in
    omega (arith, ap length whole, length-append (of_log r.log xs) (of_log r.log (r ∷ ys)), ap length own)

pub may_come : WhatIsReadFits → (shape : Shape) (bytes : List ℕ) (memory : List (ℕ × Bytes)) (records : List Record)
    (r : Reading) (running : Standing) (item : Record) (rest : List Record) {ordered : Bool}
    → HasRead r bytes memory records → IsRunning shape ordered bytes memory records running →
    r.records ≡ item ∷ rest → MayCome shape records item
may_come law shape bytes memory records r running item rest read run next =
    let fits = law bytes run.header read.are_bytes run.read in
    let all : (reading_of bytes).records ≡ records ++ item ∷ rest =
    ap (λ (q : Reading). q.records) read.same ∙ ap (λ (xs : List Record). records ++ xs) next in
    record {
      fits = fits_shape shape run.header item run.agrees (middle (FitsIn run.header) records item rest
          (subst (AllByRecursion (FitsIn run.header)) all fits.each)).fits;
      room = omega (
        arith,
        limit_is_small run.header.version,
        one_of_log records item rest,
        ap
            (λ (xs : List Record). length (of_log item.log xs)) all,
        fits.logs item.log,
      );
    }

pub running_more : (shape : Shape) (bytes : List ℕ) (memory : List (ℕ × Bytes)) (records more : List Record)
    (old new : Standing) {ordered : Bool} (running : IsRunning shape ordered bytes memory records old)
    → StandsAfterAll shape (flat_memory memory) more new → IsWatch (first_offset running.header memory) shape
    (flat_memory memory) more new.watch → new.entries.keeps ≡ old.entries.keeps →
    IsRunning shape ordered bytes memory more new
running_more shape bytes memory records more old new running stands watched keeps =
    record {
      header = running.header;
      read = running.read;
      agrees = running.agrees;
      whole = running.whole;
      stands =
          stands;
      watched = watched;
      keeping = keeps ∙ running.keeping;
    }

-- where it ends well
pub on_ok : {F : Type 0} {P Q : Type 0} (result : Result (Unit {0}) F) → OnOk result P → (P → Q) → OnOk result Q
on_ok (Ok u) p f = f p
on_ok (Err e) p f = tt

-- what the reader gave stood in front
pub given_one : (r : Reading) (item : Record) (bytes : List ℕ) (memory : List (ℕ × Bytes))
    (records : List Record) → HasRead (with_record (Some item) r) bytes memory records
    → HasRead r bytes memory (records ++ item ∷ [])
given_one r item bytes memory records read = record {
  are_bytes = read.are_bytes;
  same = read.same ∙ ap (λ (rs : List Record). record r { memory = memory ++ r.memory; records = rs })
      (sym (append_assoc records (item ∷ []) r.records));
}

-- all that the reader has found may come
pub may_all_come : WhatIsReadFits → (shape : Shape) (bytes : List ℕ) (memory : List (ℕ × Bytes))
    (records : List Record) (r : Reading) (running : Standing) {ordered : Bool}
    → HasRead r bytes memory records → IsRunning shape ordered bytes memory records running →
    MayAllCome shape records r.records
may_all_come law shape bytes memory records r running read run =
    let fits = law bytes run.header read.are_bytes run.read in
    let all : (reading_of bytes).records ≡ records ++ r.records = ap (λ (q : Reading). q.records) read.same in
    go records r.records (subst (AllByRecursion (FitsIn run.header)) all fits.each)
    (λ log. omega (
      arith,
      limit_is_small run.header.version,
      ap (λ (xs : List Record). length (of_log log xs)) all,
      fits.logs log,
    ))
  where
    go : (before rs : List Record) → AllByRecursion (FitsIn run.header) (before ++ rs) →
        ((log : ℕ) → length (of_log log (before ++ rs)) ≤ 2 ^ 24) → MayAllCome shape before rs
    go before [] each few = tt
    go before (item ∷ rs) each few =
        let same : before ++ item ∷ rs ≡ (before ++ item ∷ []) ++ rs = sym (append_assoc before (item ∷ []) rs) in (
          record {
            fits = fits_shape shape run.header item run.agrees (middle (FitsIn run.header) before item rs each).fits;
            room = omega (arith, one_of_log before item rs, few item.log);
          },
          go (before ++ item ∷ []) rs (subst (AllByRecursion (FitsIn run.header)) same each)
              (λ log. subst (λ (xs : List Record). length (of_log log xs) ≤ 2 ^ 24) same (few log)),
        )

-- ---- what a session answers

pub told_stop : (shape : Shape) (bytes : List ℕ) (fault : CodecFault) (stop : Stop) → IsFaultOrWant bytes fault →
    IsStopOf fault stop → IsOutcomeOrWant shape bytes (Refused (refusal_of stop))
told_stop shape bytes fault (stops.Format told) either is = reading_stop bytes fault (stops.Format told) either is
told_stop shape bytes fault stops.Memory either is = tt

module _ (exact : ReadingIsExact) (shape : Shape) (bytes : List ℕ) (are_bytes : (i : ℕ) → slice_index bytes i < 256)
    (h : Header) (memory left : List (ℕ × Bytes))
    (records rest : List Record) (trace : IsTrace bytes h (memory ++ left) (records ++ rest)) where
  same_header : (header : Header) → header_of bytes ≡ Some header → header ≡ h
  same_header header read =
      let read_as = (exact bytes h (memory ++ left) (records ++ rest) are_bytes).1 trace in
      let one : Some header ≡ Some h = sym read ∙ read_as.1 in cc

  pub another : (field : HeaderField) → IsOfAnotherHeader shape bytes field → IsOfAnother shape bytes field
  another field other = record {
    header = h;
    memory = memory ++ left;
    records = records ++ rest;
    trace = trace;
    differs = subst (λ (g : Header). Differs shape g field) (same_header other.header other.read) other.differs;
  }

  module _ (running : Standing) {ordered : Bool} (run : IsRunning shape ordered bytes memory records running)
      (drained : rest ≡ []) where
    none_left : left ≡ []
    none_left =
        let one = same_header run.header run.read in
        empty left (omega (
          arith,
          trace.fits.memory_count,
          length-append memory left,
          run.whole,
          ap
              (λ (g : Header). g.memory_count) one,
        ))
      where
        empty : (xs : List (ℕ × Bytes)) → length xs ≡ 0 → xs ≡ []
        empty [] e = refl
        empty (x ∷ xs) e = absurd (omega arith)

    whole_trace : IsTrace bytes h memory records
    whole_trace =
        subst (λ (rs : List Record). IsTrace bytes h memory rs)
        (ap (λ (xs : List Record). records ++ xs) drained ∙ append-nil records)
        (subst (λ (m : List (ℕ × Bytes)). IsTrace bytes h m (records ++ rest))
        (ap (λ (xs : List (ℕ × Bytes)). memory ++ xs) none_left ∙ append-nil memory) trace)

    pub trace_for : IsTraceFor shape bytes memory (logs_so_far shape records)
    trace_for = record {
      header = h;
      records = records;
      trace = whole_trace;
      agrees = subst (Agrees shape) (same_header run.header run.read) run.agrees;
      are_logs = refl;
    }

    pub short_logs : IsShape shape → IsShort shape records
    short_logs in_range = record {
      in_range = in_range;
      short =
          λ log. omega (arith, limit_is_small h.version, whole_trace.fits.logs log);
    }

-- while the session waits, no memory matters
pub waiting_any : (shape : Shape) (ordered : Bool) (bytes : List ℕ) (a b : List (ℕ × Bytes)) (records : List Record)
    (judging : Judging) → judging ≡ Waiting
    → IsJudging shape ordered bytes a records judging → IsJudging shape ordered bytes b records judging
waiting_any shape ordered bytes a b records judging e h =
    subst (λ (j : Judging). IsJudging shape ordered bytes b records j) (sym e)
    (subst (λ (j : Judging). IsJudging shape ordered bytes a records j) e h)

-- ... and what was taken is kept
pub waiting_kept : (judging : Judging) (taken kept : List (ℕ × Bytes)) → judging ≡ Waiting →
    IsKept judging taken kept → taken ≡ kept
waiting_kept judging taken kept e is = subst (λ (j : Judging). IsKept j taken kept) e is

pub kept_waiting : (judging : Judging) (taken kept : List (ℕ × Bytes)) → judging ≡ Waiting → taken ≡ kept →
    IsKept judging taken kept
kept_waiting judging taken kept e is = subst (λ (j : Judging). IsKept j taken kept) (sym e) is

-- what a session that nothing stopped has taken
pub going : (s : Intake) (bytes : List ℕ) → s.stop ≡ None → HasFed s bytes → HasTaken s bytes
going s bytes e fed = subst (λ (stop : Option Stop). HasFedUntil s bytes stop) e fed

-- ... and one that can tell what broke
pub can_taken : (s : Intake) (bytes : List ℕ) (stop : Option Stop) → CanTell s.asked stop → HasFedUntil s bytes stop →
    HasTaken s bytes
can_taken s bytes None can fed = fed
can_taken s bytes (Some (stops.Format fault)) can fed = fed.1 can
can_taken s bytes (Some stops.Memory) can fed = absurd can

-- what was stopped so, and took what stands in the bytes, was fed them
pub stop_taken : (s t : Intake) (bytes : List ℕ) (stop : Stop) → t.stop ≡ Some stop →
    HasFedUntil s bytes (Some stop) → HasTaken t bytes → HasFed t bytes
stop_taken s t bytes stop is at taken = subst (λ (o : Option Stop). HasFedUntil t bytes o) (sym is) (go stop at)
  where
    go : (stop : Stop) → HasFedUntil s bytes (Some stop) → HasFedUntil t bytes (Some stop)
    go (stops.Format fault) at = (at.0, λ _. taken)
    go stops.Memory at = tt

pub can_going : (s : Intake) → s.stop ≡ None → CanTell s.asked s.stop
can_going s e = subst (CanTell s.asked) (sym e) tt

-- ---- what stands in the bytes so far

-- a session that nothing stopped was fed bytes without a fault
pub no_fault_so_far : (s : Intake) (bytes : List ℕ) → s.stop ≡ None → HasFed s bytes → fault_so_far bytes ≡ None
no_fault_so_far s bytes e fed =
    let m = going s bytes e fed in
    ap (λ (q : Reading). q.fault) m.1.read.same ∙ m.1.fine e

pub stop_in : (s : Intake) (bytes : List ℕ) (stop : Stop) → HasFedUntil s bytes (Some stop) → IsStopIn bytes stop
stop_in s bytes (stops.Format fault) at = at.0
stop_in s bytes stops.Memory at = tt

refusal_so_far : (s : Intake) (bytes : List ℕ) (stop : Stop) → HasFedUntil s bytes (Some stop) →
    IsRefusalSoFar bytes (refusal_of stop)
refusal_so_far s bytes (stops.Format fault) at = at.0.0
refusal_so_far s bytes stops.Memory at = tt

-- what a feed that succeeded, and one that did not, says of the bytes
pub fed_fine : (s : Intake) (bytes : List ℕ) (old new : Option Stop) → s.stop ≡ new → Ok tt ≡ stop_told old new →
    HasFed s bytes → fault_so_far bytes ≡ None
fed_fine s bytes None None e told fed = no_fault_so_far s bytes e fed
fed_fine s bytes None (Some stop) e told fed = absurd (cc)
fed_fine s bytes (Some stop) new e told fed = absurd (cc)

pub fed_fault : (s : Intake) (bytes : List ℕ) (old new : Option Stop) (t : Told Refusal) → s.stop ≡ new →
    (IsSome old → old ≡ new) → Err t ≡ stop_told old new
    → HasFed s bytes → IsRefusalSoFar bytes (fault_in t)
fed_fault s bytes None None t e same told fed = absurd (cc)
fed_fault s bytes None (Some stop) t e same told fed =
    let is : t ≡ tolds.Fault (refusal_of stop) = cc in
    subst (λ (u : Told Refusal). IsRefusalSoFar bytes (fault_in u)) (sym is)
    (refusal_so_far s bytes stop (subst (λ (o : Option Stop). HasFedUntil s bytes o) e fed))
fed_fault s bytes (Some stop) new t e same told fed =
    let is : t ≡ tolds.Failed (refusal_of stop) = cc in
    subst (λ (u : Told Refusal). IsRefusalSoFar bytes (fault_in u)) (sym is)
    (refusal_so_far s bytes stop (subst (λ (o : Option Stop). HasFedUntil s bytes o) (e ∙ sym (same refl)) fed))

-- ---- a session that waits

-- bytes that are a whole trace lack nothing
pub waits_no_more : ReadingIsExact → (bytes : List ℕ) (r : Reading) (h : Header) (memory : List (ℕ × Bytes))
    (records : List Record)
    → HasRead r bytes memory records → IsTrace bytes h (memory ++ r.memory) (records ++ r.records) →
    IsLacking r memory → ⊥
waits_no_more exact bytes r h memory records read trace lacking =
    let read_as = (exact bytes h (memory ++ r.memory) (records ++ r.records) read.are_bytes).1 trace in
    let here : header_now r ≡ Some h = sym (ap header_now read.same) ∙ read_as.1 in
    lacking.lacks h here (sym (length-append-nil memory r.memory lacking.none) ∙ sym trace.fits.memory_count)
  where
    length-append-nil : (xs ys : List (ℕ × Bytes)) → ys ≡ [] → length (xs ++ ys) ≡ length xs
    length-append-nil xs ys e = ap (λ (zs : List (ℕ × Bytes)). length (xs ++ zs)) e ∙ ap length (append-nil xs)

-- ---- one feed more

pub both_bytes : (xs ys : List ℕ) → AreBytes xs → AreBytes ys → AreBytes (xs ++ ys)
both_bytes xs ys a b i =
    elim (cases_lt i (length xs)) [
      | inl lt ↦ rw (get_or_append_left xs ys 0 i lt) (a i)
      | inr le ↦ rw (get_or-append_right xs ys (length xs) i 0 refl le) (b (i - length xs))
    ]

pub header_stays : HeaderIsOfItsBytes → (bytes piece : List ℕ) (h : Header) → header_of bytes ≡ Some h →
    header_of (bytes ++ piece) ≡ Some h
header_stays law bytes piece h e = elim (cases_lt (length bytes) 16) [
  | inl lt ↦ let no : Some h ≡ None = sym e ∙ law.fewer bytes lt in absurd (cc)
  | inr le ↦
      let long : 16 ≤ length (bytes ++ piece) = omega (arith, length-append bytes piece) in
      let same : take 16 (bytes ++ piece) ≡ take 16 bytes = take-append-le 16 bytes piece le in
      law.whole (bytes ++ piece) long ∙ ap (λ (b : List ℕ). header_if (judged (header_checks b)) b) same
      ∙ sym (law.whole bytes le) ∙ e
]

-- a stop stands whatever bytes follow
pub stop_in_stays : FaultsStand → (bytes piece : List ℕ) (stop : Stop) → AreBytes piece → IsStopIn bytes stop →
    IsStopIn (bytes ++ piece) stop
stop_in_stays law bytes piece (stops.Format fault) fit at = (
  (law bytes piece fault at.0).so_far,
  both_bytes bytes
      piece at.1 fit,
)
stop_in_stays law bytes piece stops.Memory fit at = tt

module _ (shape : Shape) (bytes more : List ℕ)
    (header : (h : Header) → header_of bytes ≡ Some h → header_of more ≡ Some h) where
  -- the parts stand as they stood where the header is the same
  running_with : (memory : List (ℕ × Bytes)) (records : List Record) (running : Standing) {ordered : Bool}
      → IsRunning shape ordered bytes memory records running → IsRunning shape ordered more memory records running
  running_with memory records running h = record {
    header = h.header;
    read = header h.header h.read;
    agrees = h.agrees;
    whole = h.whole;
    stands = h.stands;
    watched = h.watched;
    keeping = h.keeping;
  }

  judging_with : (memory : List (ℕ × Bytes)) (records : List Record) (ordered : Bool) (j : Judging) →
      IsJudging shape ordered bytes memory records j → IsJudging shape ordered more memory records j
  judging_with memory records ordered Waiting h = h
  judging_with memory records ordered (Running running) h = running_with memory records running h
  judging_with memory records ordered (Another field) h = record {
    header = h.header;
    read = header h.header h.read;
    differs = h.differs;
  }

-- nothing is taken behind a fault
taken_stays : (s : Intake) (bytes piece : List ℕ) → AreBytes piece → reading_of (bytes ++ piece) ≡ reading_of bytes →
    HasTaken s bytes → HasTaken s (bytes ++ piece)
taken_stays s bytes piece fit same taken =
    let m = taken.1 in (
      taken.0,
      record {
        in_range = m.in_range;
        taken = m.taken;
        kept = m.kept;
        read = record { are_bytes = both_bytes bytes piece m.read.are_bytes fit; same = same ∙ m.read.same };
        fine = m.fine;
        judging = judging_with s.shape bytes (bytes ++ piece) (λ h e. ap header_now same ∙ e) m.taken taken.0
            s.asked.ordered s.judging m.judging;
      },
    )

pub stop_stays : FaultsStand → (s : Intake) (bytes piece : List ℕ) (stop : Stop) → AreBytes piece →
    HasFedUntil s bytes (Some stop) → HasFedUntil s (bytes ++ piece) (Some stop)
stop_stays law s bytes piece (stops.Format fault) fit at = (
  stop_in_stays law bytes piece (stops.Format fault) fit at.0,
  λ can. taken_stays s bytes piece fit (nothing_behind bytes piece fault at.0.0) (at.1 can),
)
stop_stays law s bytes piece stops.Memory fit at = tt

-- a reader that has failed since memory ran out, however that came
pub record Wants (r : Reading) : Type 0 where
  pub fault : CodecFault
  pub failed : r.fault ≡ Some fault
  pub cause : fault.cause ≡ NoMemory

-- The stop stands in the bytes, and where it is a fault of the format the reader has read them.
abbrev pub HasStopped : Reading → List ℕ → List (ℕ × Bytes) → List Record → Stop → Type 0
HasStopped r bytes memory records (stops.Format fault) = IsStopIn bytes (stops.Format fault) ×
    HasRead r bytes memory records
HasStopped r bytes memory records stops.Memory = Unit {0}

stop_is : (old : Option CodecFault) (new : Reading) (bytes : List ℕ) (memory : List (ℕ × Bytes))
    (records : List Record) (t : Told CodecFault) (stop : Stop)
    → old ≡ None → told old new.fault ≡ Err t → HasRead new bytes memory records ⊎ Wants new →
    IsStopOf (fault_in t) stop → HasStopped new bytes memory records stop
stop_is old new bytes memory records t (stops.Format fault) fine e either is =
    let here : new.fault ≡ Some (fault_in t) = fault_told new.fault t
    (sym (ap (λ (f : Option CodecFault). told f new.fault) fine) ∙ e) in
    ⊎_elim
    (λ (has : HasRead new bytes memory records). (
      (ap (λ (q : Reading). q.fault) has.same ∙ here ∙ ap Some (sym is.0), has.are_bytes),
      has,
    ))
    (λ (out : Wants new).
    let same : Some out.fault ≡ Some (fault_in t) = sym out.failed ∙ here in
    let one : out.fault ≡ fault_in t = cc in
    absurd (is.1 (subst (λ (f : CodecFault). f.cause ≡ NoMemory) one out.cause)))
    either
stop_is old new bytes memory records t stops.Memory fine e either is = tt

-- what stops a session, and what it has taken then
pub read_stop : HeaderIsOfItsBytes → (s : Intake) (bytes piece : List ℕ) (records : List Record)
    (was : HasJudged s bytes records) (new : Reading) (t : Told CodecFault) (stop : Stop)
    → s.stop ≡ None → told s.reader.fault new.fault ≡ Err t
    → HasRead new (bytes ++ piece) was.taken records ⊎ RanOut new (bytes ++ piece) was.taken records
    → IsStopOf (fault_in t) stop
    → HasFedUntil (record s { reader = new; stop = Some stop }) (bytes ++ piece) (Some stop)
read_stop law s bytes piece records was new t stop on e either is = go stop
    (stop_is s.reader.fault new (bytes ++ piece) was.taken records t stop (was.fine on) e
    (⊎_elim inl (λ (out : RanOut new (bytes ++ piece) was.taken records). inr
    (record { fault = out.fault; failed = out.failed; cause = out.cause })) either) is)
  where
    go : (stop : Stop) → HasStopped new (bytes ++ piece) was.taken records stop →
        HasFedUntil (record s { reader = new; stop = Some stop }) (bytes ++ piece) (Some stop)
    go (stops.Format fault) at = (
      at.0,
      λ can. (
        records,
        record {
          in_range = was.in_range;
          taken = was.taken;
          kept = was.kept;
          read = at.1;
          fine = λ on. let no : Some (stops.Format fault) ≡ None = on in absurd (cc);
          judging = judging_with s.shape bytes (bytes ++ piece) (header_stays law bytes piece) was.taken records
              s.asked.ordered s.judging was.judging;
        },
      ),
    )
    go stops.Memory at = tt

-- what stops a reader that packs what it reads
pub packed_stop : (old : Option CodecFault) (new : Reading) (bytes : List ℕ) (memory : List (ℕ × Bytes))
    (records : List Record) (t : Told CodecFault) (stop : Stop)
    → old ≡ None → told old new.fault ≡ Err t
    → HasRead new bytes memory records ⊎ WantsMemory new bytes memory records → IsStopOf (fault_in t) stop →
    IsStopIn bytes stop
packed_stop old new bytes memory records t stop fine e either is = go stop
    (stop_is old new bytes memory records t stop fine e
    (⊎_elim inl (λ (out : WantsMemory new bytes memory records). inr
    (record { fault = out.fault; failed = out.has_failed.failed; cause = out.cause })) either) is)
  where
    go : (stop : Stop) → HasStopped new bytes memory records stop → IsStopIn bytes stop
    go (stops.Format fault) at = at.0
    go stops.Memory at = tt

-- the parts stand as they stood where more bytes come
pub running_on : HeaderIsOfItsBytes → (shape : Shape) (bytes piece : List ℕ) (memory : List (ℕ × Bytes))
    (records : List Record) (running : Standing) {ordered : Bool}
    → IsRunning shape ordered bytes memory records running
    → IsRunning shape ordered (bytes ++ piece) memory records running
running_on law shape bytes piece memory records running h =
    running_with shape bytes (bytes ++ piece) (header_stays law bytes piece) memory records running h

pub judged_feed : HeaderIsOfItsBytes → (s : Intake) (bytes piece : List ℕ) (records : List Record) (new : Reading)
    (was : HasJudged s bytes records)
    → HasRead new (bytes ++ piece) was.taken records → new.fault ≡ None
    → HasJudged (record s { reader = new }) (bytes ++ piece) records
judged_feed law s bytes piece records new was read fine = record {
  in_range = was.in_range;
  taken = was.taken;
  kept = was.kept;
  read = read;
  fine = λ _. fine;
  judging = judging_with s.shape bytes (bytes ++ piece) (header_stays law bytes piece) was.taken records
      s.asked.ordered s.judging was.judging;
}
