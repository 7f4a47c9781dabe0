-- A session that reads ahead of its judges.
use Rattle.std.proofs.Common.{◌≡◌, ℕ, List, [], ◌++◌, Option, Some, None, Result, Ok, Err, sym, ap, ◌∙◌, subst}
use Rattle.std.proofs.Common.{◌+◌, ◌-◌, ◌∷◌, true, false, length, get_or, take, drop, refl, append_assoc, arith}
use Rattle.std.proofs.Common.{inl, inr, ⊎_elim}
use Rattle.std.specs.Prelude.{◌==◌, IfOk, IfSome, IsSome}
use Rattle.std.specs.Arc.{arc_value}
use Rattle.std.proofs.lemmas.Bool.{eqb-true}
use Rattle.std.proofs.lemmas.List.{append-nil, get_or-append_right, take-append-drop}
use Rattle.lf_rules.specs.declared.event.Record.{Record}
use Rattle.lf_rules.specs.Address.{flat_memory}
use Rattle.lf_rules.specs.Fits.{Bytes}
use Rattle.lf_codec.specs.Laws.{WhatIsReadFits, HeaderIsOfItsBytes, FaultsStand, AreBytes}
use Rattle.lf_codec.specs.Packed.{PackedRecords}
use Rattle.lf_codec.specs.Reading.{Reading}
use Rattle.lf_codec.specs.Reader.{told, HasRead, with_records}
use Rattle.lf_verdict.specs.declared.session.intake.Intake.{Intake}
use Rattle.lf_verdict.specs.inner.Coming.{MayAllCome}
use Rattle.lf_verdict.specs.inner.Ahead.{CanRead, ReadsOn, IsAhead, IsIdle, session_of, lent_records}
use Rattle.lf_verdict.specs.inner.Shares.{MayFollow, StandsAfterNext}
use Rattle.lf_verdict.specs.declared.stop.Stop.{Stop}
use Rattle.lf_verdict.specs.declared.stop.Stop.TheVariants as stops
use Rattle.lf_verdict.specs.Session.{CanTell}
use Rattle.lf_verdict.specs.declared.session.asked.Asked.{Asked}
use Rattle.lf_verdict.specs.inner.Fed.{HasTaken, HasFed, HasFedUntil, IsStopIn, IsRunningNow, IsAsAsked, IsPlain}
use Rattle.lf_verdict.specs.declared.session.workers.Workers.{Workers}
use Rattle.lf_verdict.specs.declared.session.standing.Standing.{Standing}
use Rattle.lf_verdict.specs.declared.session.ahead.Ahead.{Ahead}
use Rattle.lf_verdict.specs.declared.session.breaking.Watch.{Watch}
use Rattle.lf_verdict.specs.Breaking.{first_offset}
use Rattle.lf_verdict.specs.Standing.{IsWatch}
use Rattle.lf_verdict.specs.inner.Taking.{running_before, IsSettled}
use Rattle.lf_verdict.specs.inner.Workers.{AreWorkers}
use Rattle.lf_verdict.proofs.Batches.{first_come}
use Rattle.lf_verdict.proofs.Pieces.{told_fine}
use Rattle.lf_verdict.proofs.Sessions.{may_all_come, running_more, judged_feed, stop_in_stays, can_going}

-- what was lent stands in front
pub lent_before : {G : Type 0} (a : Ahead G) (workers : Workers) (bytes : List ℕ) → a.at_work ≡ Some workers →
    HasTaken (session_of a) bytes
    → HasTaken (running_before workers.standing.value ((arc_value workers.batch).records ++ a.records.records) a.intake)
    bytes
lent_before a workers bytes e taken =
    subst (λ (w : Option Workers). HasTaken (session_of (record a { at_work = w })) bytes) e taken

-- records that were still to be taken, in front of others, were taken
together : (records first rest behind : List Record) → records ++ ((first ++ rest) ++ behind) ≡ (records ++ first)
    ++ (rest ++ behind)
together records first rest behind =
    ap (λ (xs : List Record). records ++ xs) (append_assoc first rest behind)
    ∙ sym (append_assoc records first (rest ++ behind))

pub taken_too : (r : Reading) (bytes : List ℕ) (memory : List (ℕ × Bytes)) (records first rest : List Record) →
    HasRead (with_records (first ++ rest) r) bytes memory records
    → HasRead (with_records rest r) bytes memory (records ++ first)
taken_too r bytes memory records first rest read = record {
  are_bytes = read.are_bytes;
  same = read.same ∙ ap (λ (rs : List Record). record r { memory = memory ++ r.memory; records = rs })
      (together records first rest r.records);
}

-- ... and the other way round
pub still_to_take : (r : Reading) (bytes : List ℕ) (memory : List (ℕ × Bytes)) (records first rest : List Record) →
    HasRead (with_records rest r) bytes memory (records ++ first)
    → HasRead (with_records (first ++ rest) r) bytes memory records
still_to_take r bytes memory records first rest read = record {
  are_bytes = read.are_bytes;
  same = read.same ∙ sym (ap (λ (rs : List Record). record r { memory = memory ++ r.memory; records = rs })
      (together records first rest r.records));
}

pub if_ok_more : {X F : Type 0} {P Q : X → Type 0} (result : Result X F) → ((x : X) → P x → Q x) → IfOk result P →
    IfOk result Q
if_ok_more (Ok x) more p = more x p
if_ok_more (Err e) more p = tt

-- ---- records that are judged, in front of others

module _ (law : WhatIsReadFits) (s : Intake) (bytes : List ℕ) (start : Standing) (next rest : List Record)
    (taken : HasTaken (running_before start (next ++ rest) s) bytes) where
  may : MayAllCome s.shape taken.0 next
  may = first_come s.shape taken.0 next (rest ++ s.reader.records)
      (subst (MayAllCome s.shape taken.0) (append_assoc next rest s.reader.records)
      (may_all_come law s.shape bytes taken.1.taken taken.0 (with_records (next ++ rest) s.reader) start taken.1.read
      taken.1.judging))

  pub may_follow : MayFollow start next
  may_follow = record {
    shape = s.shape;
    memory = flat_memory taken.1.taken;
    before = taken.0;
    stands = taken.1.judging.stands;
    may = may;
  }

  -- they were judged
  pub judged_next : (end : Standing) → StandsAfterNext start next end → HasTaken (running_before end rest s) bytes
  judged_next end judged = (
    taken.0 ++ next,
    record {
      in_range = taken.1.in_range;
      taken = taken.1.taken;
      kept = taken.1.kept;
      read = taken_too s.reader bytes taken.1.taken taken.0 next rest taken.1.read;
      fine = taken.1.fine;
      judging = running_more s.shape bytes taken.1.taken taken.0 (taken.0 ++ next) start end taken.1.judging
          (judged.stands s.shape (flat_memory taken.1.taken) taken.0 taken.1.judging.stands may)
          (subst (λ (w : Watch). IsWatch (first_offset taken.1.judging.header taken.1.taken) s.shape
          (flat_memory taken.1.taken) (taken.0 ++ next) w) (sym judged.unknown) tt) judged.keeps;
    },
  )

-- the same where no other record is there
pub alone : (s : Intake) (bytes : List ℕ) (start : Standing) (next : List Record) →
    HasTaken (running_before start next s) bytes → HasTaken (running_before start (next ++ []) s) bytes
alone s bytes start next = subst (λ (rs : List Record). HasTaken (running_before start rs s) bytes)
    (sym (append-nil next))

-- workers are in front of what is read
pub handed : (s : Intake) (bytes : List ℕ) (w : Workers) (start : Standing) (next rest : List Record) →
    w.standing.value ≡ start → (arc_value w.batch).records ≡ next → rest ≡ [] →
    HasTaken (running_before start next s) bytes
    → HasTaken (running_before w.standing.value ((arc_value w.batch).records ++ rest) s) bytes
handed s bytes w start next rest same records none taken =
    subst (λ (xs : List Record). HasTaken (running_before w.standing.value ((arc_value w.batch).records ++ xs) s) bytes)
    (sym none)
    (subst (λ (x : Standing). HasTaken (running_before x ((arc_value w.batch).records ++ []) s) bytes) (sym same)
    (subst (λ (xs : List Record). HasTaken (running_before start (xs ++ []) s) bytes) (sym records)
    (alone s bytes start next taken)))

-- ---- what is fed

-- a piece was read behind what waits
pub read_ahead : HeaderIsOfItsBytes → {G : Type 0} (a : Ahead G) (bytes piece : List ℕ) (r : Reading)
    (rs : PackedRecords) → HasTaken (session_of a) bytes
    → ((fed : List ℕ) (memory : List (ℕ × Bytes)) (taken : List Record) →
    HasRead (with_records a.records.records a.intake.reader) fed memory taken
    → HasRead (with_records rs.records r) (fed ++ piece) memory taken)
    → r.fault ≡ None → HasTaken (session_of (record a { intake = record a.intake { reader = r }; records = rs }))
    (bytes ++ piece)
read_ahead law a bytes piece r rs taken ok fine =
    let s = session_of a in
    let lent = lent_records a.at_work in
    let memory = taken.1.taken in
    let has = ok bytes memory (taken.0 ++ lent) (taken_too a.intake.reader bytes memory taken.0 lent a.records.records
    taken.1.read) in (
      taken.0,
      judged_feed law s bytes piece taken.0 (with_records (lent ++ rs.records) r) taken.1
          (still_to_take r (bytes ++ piece) memory taken.0 lent rs.records has) fine,
    )

-- where it was not asked what broke first, that is told only while nothing stopped it
pub unwatched_going : (asked : Asked) (stop : Option Stop) → asked.watched ≡ false → CanTell asked stop → stop ≡ None
unwatched_going asked None unwatched can = refl
unwatched_going asked (Some (stops.Format fault)) unwatched can =
    let e : true ≡ false = sym can ∙ unwatched in absurd (cc)
unwatched_going asked (Some stops.Memory) unwatched can = absurd can

-- where neither is asked for, nothing is told once it is stopped
pub plain_silent : (asked : Asked) (stop : Stop) → IsPlain asked → CanTell asked (Some stop) → ⊥
plain_silent asked (stops.Format fault) plain can = let e : true ≡ false = sym can ∙ plain.unwatched in absurd (cc)
plain_silent asked stops.Memory plain can = can

-- ... and nothing need be taken
pub plain_stopped : (t : Intake) (bytes : List ℕ) (stop : Stop) → t.stop ≡ Some stop → IsPlain t.asked →
    IsStopIn bytes stop → HasFed t bytes
plain_stopped t bytes stop is plain at = subst (λ (o : Option Stop). HasFedUntil t bytes o) (sym is) (go stop at)
  where
    go : (stop : Stop) → IsStopIn bytes stop → HasFedUntil t bytes (Some stop)
    go (stops.Format fault) at = (at, λ can. absurd (plain_silent t.asked (stops.Format fault) plain can))
    go stops.Memory at = tt

-- what nothing stopped has taken is what it was fed
pub still_going : (s : Intake) (bytes : List ℕ) → s.stop ≡ None → HasTaken s bytes → HasFed s bytes
still_going s bytes is taken = subst (λ (o : Option Stop). HasFedUntil s bytes o) (sym is) taken

-- no record waits
pub none_ahead : {G : Type 0} (a : Ahead G) (bytes : List ℕ) → a.at_work ≡ None → a.records.records ≡ [] →
    HasFed a.intake bytes → HasFed (session_of a) bytes
none_ahead a bytes alone none fed =
    subst (λ (w : Option Workers). HasFed (session_of (record a { at_work = w })) bytes) (sym alone)
    (subst (λ (xs : List Record). HasFed (record a.intake { reader = with_records xs a.intake.reader }) bytes)
    (sym none) fed)

-- what a session has taken that neither reads ahead nor waits for workers
idle_taken : {G : Type 0} (a : Ahead G) (bytes : List ℕ) → IsIdle a → HasTaken (session_of a) bytes →
    HasTaken a.intake bytes
idle_taken a bytes idle taken =
    subst (λ (xs : List Record). HasTaken (record a.intake { reader = with_records xs a.intake.reader }) bytes)
    idle.none
    (subst (λ (w : Option Workers). HasTaken (session_of (record a { at_work = w })) bytes) idle.alone taken)

-- one that is asked what broke first does neither
watched_idle : {G : Type 0} (a : Ahead G) → IsAhead a → CanTell a.intake.asked a.intake.stop →
    a.intake.asked.watched ≡ true → IsIdle a
watched_idle a ahead can watched = ⊎_elim
    (λ (plain : IsPlain a.intake.asked). let e : true ≡ false = sym watched ∙ plain.unwatched in absurd (cc))
    (λ idle. idle) (ahead.in_turn can)

-- what it was fed, or what one was fed that was stopped
pub own_fed : {G : Type 0} (a : Ahead G) (bytes : List ℕ) (stop : Option Stop) → IsAhead a → a.intake.stop ≡ stop →
    (stop ≡ None → a.intake.asked.watched ≡ true) → HasFedUntil (session_of a) bytes stop
    → HasFedUntil a.intake bytes stop
own_fed a bytes None ahead is watched fed =
    idle_taken a bytes (watched_idle a ahead (subst (CanTell a.intake.asked) (sym is) tt) (watched refl)) fed
own_fed a bytes (Some (stops.Format fault)) ahead is watched fed = (
  fed.0,
  λ can. idle_taken a bytes (watched_idle a ahead (subst (CanTell a.intake.asked) (sym is) can) can) (fed.1 can),
)
own_fed a bytes (Some stops.Memory) ahead is watched fed = tt

-- where neither is asked for, what was asked is done
pub plain_as_asked : (s : Intake) → IsPlain s.asked → IsAsAsked s
plain_as_asked s plain = record {
  known = λ watched. let e : true ≡ false = sym watched ∙ plain.unwatched in absurd (cc);
  counting = λ counted. let e : true ≡ false = sym counted ∙ plain.uncounted in absurd (cc);
}

-- what is busy is asked for neither
pub plain_or_idle : {G : Type 0} (a : Ahead G) → IsAhead a → a.intake.stop ≡ None → (IsIdle a → ⊥) →
    IsPlain a.intake.asked
plain_or_idle a ahead on busy = ⊎_elim (λ plain. plain) (λ (idle : IsIdle a). absurd (busy idle))
    (ahead.in_turn (can_going a.intake on))

-- ---- how it stands

-- no worker is there, and no record waits
pub idle_ahead : {G : Type 0} (a : Ahead G) → a.at_work ≡ None → a.records.records ≡ [] → IsAsAsked a.intake →
    (a.intake.asked.watched ≡ true → IsSettled a.intake) → IsAhead a
idle_ahead a alone none does settled = record {
  ahead = λ on. inr none;
  alone = λ some. alone;
  workers = subst (λ (w : Option Workers). IfSome w AreWorkers) (sym alone) tt;
  in_turn = λ on. inr (record { alone = alone; none = none });
  as_asked = λ on. does;
  settled = settled;
}

-- it was stopped, and tells nothing more
pub stopped_ahead : {G : Type 0} (a : Ahead G) (stop : Stop) → a.intake.stop ≡ Some stop → a.at_work ≡ None →
    (CanTell a.intake.asked (Some stop) → ⊥) → IsAhead a
stopped_ahead a stop is alone silent = record {
  ahead = λ on. let e : Some stop ≡ None = sym is ∙ on in absurd (cc);
  alone = λ some. alone;
  workers = subst (λ (w : Option Workers). IfSome w AreWorkers) (sym alone) tt;
  in_turn = λ can. absurd (none can);
  as_asked = λ can. absurd (none can);
  settled = λ watched can. absurd (none can);
}
  where
    none : CanTell a.intake.asked a.intake.stop → ⊥
    none can = silent (subst (CanTell a.intake.asked) is can)

-- records are judged together
pub plain_ahead : {G : Type 0} (a : Ahead G) → IsPlain a.intake.asked → a.intake.stop ≡ None →
    IsRunningNow (session_of a).judging → IfSome a.at_work AreWorkers → IsAhead a
plain_ahead a plain on running workers = record {
  ahead = λ _. inl running;
  alone = λ some. absurd (none a.intake.stop on some);
  workers = workers;
  in_turn = λ _. inl plain;
  as_asked = λ _. plain_as_asked a.intake plain;
  settled = λ watched. let e : true ≡ false = sym watched ∙ plain.unwatched in absurd (cc);
}
  where
    none : (stop : Option Stop) → stop ≡ None → IsSome stop → ⊥
    none None on some = absurd (cc)
    none (Some stop) on some = absurd (cc)

-- ---- pieces that are read

-- nothing was read yet
pub reads_none : {G : Type 0} (a : Ahead G) → CanRead a → ReadsOn a a [] (Ok tt)
reads_none a can = record {
  shape = refl;
  asked = refl;
  stop = refl;
  running = can.running;
  workers = can.workers;
  taken = λ bytes. subst (HasTaken (session_of a)) (sym (append-nil bytes));
  stopped = tt;
}

-- a piece was read, and nothing was handed over
pub reads_more : HeaderIsOfItsBytes → {G : Type 0} (a : Ahead G) (piece : List ℕ) (r : Reading) (rs : PackedRecords) →
    CanRead a
    → ((fed : List ℕ) (memory : List (ℕ × Bytes)) (taken : List Record) →
    HasRead (with_records a.records.records a.intake.reader) fed memory taken
    → HasRead (with_records rs.records r) (fed ++ piece) memory taken)
    → told a.intake.reader.fault r.fault ≡ Ok tt
    → ReadsOn a (record a { intake = record a.intake { reader = r }; records = rs }) piece (Ok tt)
reads_more law a piece r rs can ok fine = record {
  shape = refl;
  asked = refl;
  stop = refl;
  running = can.running;
  workers = can.workers;
  taken = λ bytes taken.
      read_ahead law a bytes piece r rs taken ok
      (told_fine a.intake.reader.fault r.fault (taken.1.fine can.going) fine);
  stopped = tt;
}

-- more can be read behind what was read
pub can_still : {G : Type 0} (old new : Ahead G) (piece : List ℕ) → CanRead old → ReadsOn old new piece (Ok tt) →
    CanRead new
can_still old new piece can read = record {
  running = read.running;
  workers = read.workers;
  taken = (can.taken.0 ++ piece, read.taken can.taken.0 can.taken.1);
  going = read.stop ∙ can.going;
}

-- a part was read behind what was read
pub reads_both : {G : Type 0} (old mid new : Ahead G) (front part : List ℕ) → ReadsOn old mid front (Ok tt) →
    ReadsOn mid new part (Ok tt) → ReadsOn old new (front ++ part) (Ok tt)
reads_both old mid new front part first next = record {
  shape = next.shape ∙ first.shape;
  asked = next.asked ∙ first.asked;
  stop = next.stop ∙ first.stop;
  running = next.running;
  workers = next.workers;
  taken = λ bytes taken.
      subst (HasTaken (session_of new)) (append_assoc bytes front part)
      (next.taken (bytes ++ front) (first.taken bytes taken));
  stopped = tt;
}

-- What stands in front of the rest of the piece was read.
pub record HasReadPart {G : Type 0} (old new : Ahead G) (piece rest : List ℕ) : Type 0 where
  pub front : List ℕ
  pub cut : piece ≡ front ++ rest
  pub read : ReadsOn old new front (Ok tt)

pub split_there : (n : ℕ) (xs front back : List ℕ) → front ≡ take n xs → back ≡ drop n xs → xs ≡ front ++ back
split_there n xs front back is_front is_back =
    sym (take-append-drop n xs) ∙ ap (λ (ys : List ℕ). ys ++ drop n xs) (sym is_front)
    ∙ ap (λ (ys : List ℕ). front ++ ys) (sym is_back)

pub none_left : (xs : List ℕ) → true ≡ (length xs == 0) → xs ≡ []
none_left [] none = refl
none_left (x ∷ xs) none = absurd (omega (arith, eqb-true (length (x ∷ xs)) 0 (sym none)))

pub bytes_behind : (xs ys : List ℕ) → AreBytes (xs ++ ys) → AreBytes ys
bytes_behind xs ys are i =
    let at = get_or-append_right xs ys (length xs) (length xs + i) 0 refl (omega arith) in
    let same : length xs + i - length xs ≡ i = omega arith in
    rw (sym (at ∙ ap (λ (k : ℕ). get_or ys k 0) same)) (are (length xs + i))

-- a part stopped it, and so the whole piece
pub part_stopped : FaultsStand → {G : Type 0} (old mid new : Ahead G) (piece front part behind : List ℕ) (stop : Stop) →
    piece ≡ front ++ (part ++ behind) → AreBytes piece → ReadsOn old mid front (Ok tt)
    → ReadsOn mid new part (Err stop) → ReadsOn old new piece (Err stop)
part_stopped law old mid new piece front part behind stop cut fit first next = record {
  shape = next.shape ∙ first.shape;
  asked = next.asked ∙ first.asked;
  stop = next.stop ∙ first.stop;
  running = tt;
  workers = next.workers;
  taken = tt;
  stopped = λ bytes taken.
      subst (λ (xs : List ℕ). IsStopIn xs stop)
      (append_assoc (bytes ++ front) part behind ∙ append_assoc bytes front (part ++ behind)
      ∙ ap (λ (xs : List ℕ). bytes ++ xs) (sym cut))
      (stop_in_stays law ((bytes ++ front) ++ part) behind stop
      (bytes_behind (front ++ part) behind (subst AreBytes (cut ∙ sym (append_assoc front part behind)) fit))
      (next.stopped (bytes ++ front) (first.taken bytes taken)));
}
