-- Records that are judged where they stand in a piece.
use Rattle.std.proofs.Common.{◌≡◌, Bool, ℕ, ◌+◌, ◌-◌, List, [], ◌∷◌, ◌++◌, take, drop, Some, None, refl, sym}
use Rattle.std.proofs.Common.{ap, Option, subst, ◌∙◌, arith}
use Rattle.std.proofs.lemmas.List.{append-nil}
use Rattle.lf_rules.specs.declared.shape.Shape.{Shape}
use Rattle.lf_rules.specs.declared.event.Record.{Record}
use Rattle.lf_rules.specs.Address.{flat_memory}
use Rattle.lf_rules.specs.Fits.{Bytes}
use Rattle.lf_codec.specs.Laws.{WhatIsReadFits, HeaderIsOfItsBytes}
use Rattle.lf_codec.specs.Reading.{Reading}
use Rattle.lf_codec.specs.Reader.{HasRead, with_record}
use Rattle.lf_verdict.specs.declared.session.intake.Intake.{Intake}
use Rattle.lf_verdict.specs.declared.session.intake.Judging.{Judging}
use Rattle.lf_verdict.specs.declared.session.intake.Judging.TheVariants.{Running}
use Rattle.lf_verdict.specs.declared.session.standing.Standing.{Standing}
use Rattle.lf_verdict.specs.declared.stop.Stop.{Stop}
use Rattle.lf_verdict.specs.Breaking.{first_offset}
use Rattle.lf_verdict.specs.Standing.{IsWatch, StandsAfterAll}
use Rattle.lf_verdict.specs.inner.Coming.{MayCome}
use Rattle.lf_verdict.specs.inner.Noting.{EndsInRange}
use Rattle.lf_verdict.specs.inner.Taking.{RunsOn}
use Rattle.lf_verdict.specs.inner.Fed.{IsRunning, IsJudging, IsKept, HasFed, HasFedUntil}
use Rattle.lf_verdict.proofs.Feeding.{rest_of, rest_is, more_bytes}
use Rattle.lf_verdict.proofs.Lengths.{ends_in_range}
use Rattle.lf_verdict.proofs.Sessions.{may_come, given_one, running_on, running_more, going}

-- a record that is lent, with its bytes behind those that were read
module _ (fits : WhatIsReadFits) (law : HeaderIsOfItsBytes) (shape : Shape) (fed piece : List ℕ)
    (memory : List (ℕ × Bytes)) (records : List Record) (r : Reading) (running : Standing) (item : Record)
    {ordered : Bool} (read : HasRead (with_record (Some item) r) (fed ++ piece) memory records)
    (run : IsRunning shape ordered fed memory records running) where
  run_here : IsRunning shape ordered (fed ++ piece) memory records running
  run_here = running_on law shape fed piece memory records running run

  pub lent_may_come : MayCome shape records item
  lent_may_come = may_come fits shape (fed ++ piece) memory records (with_record (Some item) r) running item r.records
      read run_here refl

  pub lent_ends : EndsInRange running.watch item
  lent_ends = ends_in_range fits shape (fed ++ piece) memory records (with_record (Some item) r) running item r.records
      read run_here refl

  pub lent_run : (after : Standing) → StandsAfterAll shape (flat_memory memory) (records ++ item ∷ []) after
      → IsWatch (first_offset run.header memory) shape (flat_memory memory) (records ++ item ∷ []) after.watch
      → after.entries.keeps ≡ running.entries.keeps
      → (more : List Record) × (HasRead r (fed ++ piece) memory more ×
      IsRunning shape ordered (fed ++ piece) memory more after)
  lent_run after stands watched keeps =
      let more = records ++ item ∷ [] in
      let here = running_more shape fed memory records more running after run stands watched keeps in (
        more,
        (
          given_one r item (fed ++ piece) memory records read,
          running_on law shape fed piece memory more after here,
        ),
      )

-- no byte more
pub runs_nothing : (r : Reading) (running : Standing) → RunsOn r running [] r running
runs_nothing r running shape ordered fed memory records read run =
    let none = sym (append-nil fed) in (
      records,
      (
        subst (λ (bytes : List ℕ). HasRead r bytes memory records) none read,
        subst (λ (bytes : List ℕ). IsRunning shape ordered bytes memory records running) none run,
      ),
    )

-- bytes that were read in two parts
pub runs_further : (old : Reading) (before : Standing) (bytes : List ℕ) (at n : ℕ) (r : Reading) (running : Standing)
    (new : Reading) (after : Standing) → RunsOn old before (take at bytes) r running
    → RunsOn r running (take n (rest_of bytes at)) new after → RunsOn old before (take (at + n) bytes) new after
runs_further old before bytes at n r running new after first then shape ordered fed memory records read run =
    let m = first shape ordered fed memory records read run in
    let last = then shape ordered (fed ++ take at bytes) memory m.0 m.1.0 m.1.1 in
    let same = more_bytes fed bytes at n in (
      last.0,
      (
        subst (λ (all : List ℕ). HasRead new all memory last.0) same last.1.0,
        subst (λ (all : List ℕ). IsRunning shape ordered all memory last.0 after) same last.1.1,
      ),
    )

-- the bytes of a record that begins there
pub bytes_at : (bytes : List ℕ) (at n : ℕ) → take (at + n - at) (drop at bytes) ≡ take n (rest_of bytes at)
bytes_at bytes at n =
    let count : at + n - at ≡ n = omega arith in
    ap (λ (k : ℕ). take k (drop at bytes)) count ∙ ap (take n) (sym (rest_is bytes at))

-- a session whose records are judged goes on
pub ran_on : (s : Intake) (running after : Standing) (reader : Reading) (bytes fed : List ℕ) → s.stop ≡ None →
    s.judging ≡ Running running → RunsOn s.reader running bytes reader after → reader.fault ≡ s.reader.fault
    → HasFed s fed → HasFed (record s { reader = reader; judging = Running after }) (fed ++ bytes)
ran_on s running after reader bytes fed nothing is runs fault has =
    let m = going s fed nothing has in
    let run = subst (λ (j : Judging). IsJudging s.shape s.asked.ordered fed m.1.taken m.0 j) is m.1.judging in
    let now = runs s.shape s.asked.ordered fed m.1.taken m.0 m.1.read run in
    let new : Intake = record s { reader = reader; judging = Running after } in
    subst (λ (stop : Option Stop). HasFedUntil new (fed ++ bytes) stop) (sym nothing) (
      now.0,
      record {
        in_range = m.1.in_range;
        taken = m.1.taken;
        kept = subst (λ (j : Judging). IsKept j m.1.taken s.memory.items) is m.1.kept;
        read = now.1.0;
        fine = λ on. fault ∙ m.1.fine on;
        judging = now.1.1;
      },
    )
