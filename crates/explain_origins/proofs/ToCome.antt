-- What is kept after some records, as far as no later record ends it.
use Rattle.std.proofs.Common.{◌≡◌, ℕ, Bool, true, false, ◌==◌, List, [], ◌∷◌, ◌++◌, Option, Some, None, refl, sym, ap}
use Rattle.std.proofs.Common.{◌∙◌, append_assoc, if◌then◌else◌}
use Rattle.std.specs.List.{list_any}
use Rattle.std.proofs.lemmas.List.{append-nil}
use Rattle.std.specs.Prelude.{slice_get}
use Rattle.lf_rules.specs.declared.event.Record.{Record}
use Rattle.lf_rules.specs.declared.shape.Shape.{Shape}
use Rattle.explain_origins.specs.declared.parts.StatePart.{StatePart}
use Rattle.explain_origins.specs.declared.standing.Begun.{Begun}
use Rattle.explain_origins.specs.declared.standing.Origin.{Origin}
use Rattle.explain_origins.specs.Kept.{begun_by, without, without_ended, with_begun, kept_after}
use Rattle.explain_origins.specs.Origins.{Step, steps, origin_at, begun_at, ended_at, unless_ended, standing}
use Rattle.explain_origins.specs.Events.{is_key}
use Rattle.explain_origins.specs.Requests.{Queues}
use Rattle.explain_origins.proofs.Steps.{step_of, queues_then, steps_some}

-- this one, where none of these records ends it
abbrev pub unless : (Step → Option ℕ) → Origin → ℕ → List Step → List Origin
unless ends origin key later = if list_any (λ step. is_key key (ends step)) later then [] else origin ∷ []

-- all that none of these records ends
abbrev pub told : (Step → Option ℕ) → List Begun → List Step → List Origin
told ends [] later = []
told ends (one ∷ kept) later = unless ends one.origin one.key later ++ told ends kept later

told_none_later : (ends : Step → Option ℕ) (kept : List Begun) → told ends kept [] ≡ begun_by kept
told_none_later ends [] = refl
told_none_later ends (one ∷ kept) = ap (λ (os : List Origin). one.origin ∷ os) (told_none_later ends kept)

told_push : (ends : Step → Option ℕ) (kept : List Begun) (one : Begun) (later : List Step)
    → told ends (kept ++ one ∷ []) later ≡ told ends kept later ++ unless ends one.origin one.key later
told_push ends [] one later = append-nil (unless ends one.origin one.key later)
told_push ends (first ∷ kept) one later =
    ap (λ (os : List Origin). unless ends first.origin first.key later ++ os) (told_push ends kept one later)
    ∙ sym (append_assoc (unless ends first.origin first.key later) (told ends kept later)
    (unless ends one.origin one.key later))

-- a record that ends nothing
told_ends_none : (ends : Step → Option ℕ) (kept : List Begun) (s : Step) (later : List Step) → ends s ≡ None
    → told ends kept (s ∷ later) ≡ told ends kept later
told_ends_none ends [] s later is = refl
told_ends_none ends (one ∷ kept) s later is =
    rw is (ap (λ (os : List Origin). unless ends one.origin one.key later ++ os) (told_ends_none ends kept s later is))

told_ends_if : (ends : Step → Option ℕ) (k : ℕ) (one : Begun) (kept : List Begun) (s : Step) (later : List Step)
    (b : Bool) → ends s ≡ Some k
    → (one.key == k) ≡ b → told ends kept (s ∷ later) ≡ told ends (without k kept) later
    → told ends (one ∷ kept) (s ∷ later) ≡ told ends (without k (one ∷ kept)) later
told_ends_if ends k one kept s later true is same rest = rw (is, same) rest
told_ends_if ends k one kept s later false is same rest =
    rw (is, same) (ap (λ (os : List Origin). unless ends one.origin one.key later ++ os) rest)

-- a record that ends what has this key
told_ends_some : (ends : Step → Option ℕ) (k : ℕ) (kept : List Begun) (s : Step) (later : List Step) → ends s ≡ Some k
    → told ends kept (s ∷ later) ≡ told ends (without k kept) later
told_ends_some ends k [] s later is = refl
told_ends_some ends k (one ∷ kept) s later is =
    told_ends_if ends k one kept s later (one.key == k) is refl (told_ends_some ends k kept s later is)

told_ends : (ends : Step → Option ℕ) (e : Option ℕ) (kept : List Begun) (s : Step) (later : List Step) → ends s ≡ e
    → told ends kept (s ∷ later) ≡ told ends (without_ended e kept) later
told_ends ends None kept s later is = told_ends_none ends kept s later is
told_ends ends (Some k) kept s later is = told_ends_some ends k kept s later is

-- what a record begins, where none of the later records ends it
abbrev pub begun_unless : (Step → Option ℕ) → Origin → Option ℕ → List Step → List Origin
begun_unless ends origin None later = []
begun_unless ends origin (Some key) later = unless ends origin key later

told_begun : (ends : Step → Option ℕ) (origin : Origin) (b : Option ℕ) (kept : List Begun) (later : List Step)
    (rest : List Origin)
    → told ends (with_begun origin b kept) later ++ rest ≡ told ends kept later
    ++ (begun_unless ends origin b later ++ rest)
told_begun ends origin None kept later rest = refl
told_begun ends origin (Some key) kept later rest =
    ap (λ (os : List Origin). os ++ rest) (told_push ends kept (record { origin = origin; key = key }) later)
    ∙ append_assoc (told ends kept later) (unless ends origin key later) rest

-- a record that begins and ends this
told_step : (ends : Step → Option ℕ) (b : Option ℕ) (kept : List Begun) (s : Step) (later : List Step)
    (rest : List Origin)
    → told ends (kept_after (origin_at s) b (ends s) kept) later ++ rest ≡ told ends kept (s ∷ later)
    ++ (begun_unless ends (origin_at s) b later ++ rest)
told_step ends b kept s later rest =
    told_begun ends (origin_at s) b (without_ended (ends s) kept) later rest
    ∙ ap (λ (os : List Origin). os ++ (begun_unless ends (origin_at s) b later ++ rest))
    (sym (told_ends ends (ends s) kept s later refl))

-- what is kept and stands, and what the records to come begin
abbrev pub told_and_to_come : Shape → StatePart → List Begun → List Step → List Origin
told_and_to_come shape part kept later = told (ended_at part) kept later ++ standing shape part later

unless_is : (part : StatePart) (origin : Origin) (b : Option ℕ) (later : List Step)
    → begun_unless (ended_at part) origin b later ≡ unless_ended part origin b later
unless_is part origin None later = refl
unless_is part origin (Some key) later = refl

-- what is kept after a record that begins and ends this in the part
abbrev pub kept_then : Shape → StatePart → Step → List Begun → List Begun
kept_then shape part s kept = kept_after (origin_at s) (begun_at shape part s) (ended_at part s) kept

whole : (shape : Shape) (part : StatePart) (kept : List Begun) (s : Step) (later : List Step)
    → told_and_to_come shape part (kept_then shape part s kept) later
    ≡ told_and_to_come shape part kept (s ∷ later)
whole shape part kept s later =
    let begins = begun_at shape part s in
    told_step (ended_at part) begins kept s later (standing shape part later)
    ∙ ap (λ (os : List Origin). told (ended_at part) kept (s ∷ later) ++ (os ++ standing shape part later))
    (unless_is part (origin_at s) begins later)

pub kept_step : (shape : Shape) (part : StatePart) (queues after : Queues) (rs : List Record) (place : ℕ) (r : Record)
    (places : List (Option ℕ)) (kept next : List Begun) (all : List Origin)
    → slice_get rs place ≡ Some r
    → after ≡ queues_then shape queues place r
    → next ≡ kept_then shape part (step_of queues place r) kept
    → told_and_to_come shape part kept (steps shape queues rs (Some place ∷ places)) ≡ all
    → told_and_to_come shape part next (steps shape after rs places) ≡ all
kept_step shape part queues after rs place r places kept next all here waits is so_far =
    let s = step_of queues place r in
    let later = steps shape (queues_then shape queues place r) rs places in
    ap (λ (qs : Queues). told_and_to_come shape part next (steps shape qs rs places)) waits
    ∙ ap (λ (bs : List Begun). told_and_to_come shape part bs later) is
    ∙ whole shape part kept s later
    ∙ ap (λ (ss : List Step). told_and_to_come shape part kept ss)
    (sym (steps_some shape queues rs place r places here))
    ∙ so_far

-- where no record is to come
pub at_end : (shape : Shape) (part : StatePart) (queues : Queues) (rs : List Record) (places : List (Option ℕ))
    (kept : List Begun) (all : List Origin)
    → places ≡ [] → told_and_to_come shape part kept (steps shape queues rs places) ≡ all → begun_by kept ≡ all
at_end shape part queues rs places kept all none so_far =
    sym (told_none_later (ended_at part) kept) ∙ sym (append-nil (told (ended_at part) kept []))
    ∙ ap (λ (ps : List (Option ℕ)). told_and_to_come shape part kept (steps shape queues rs ps)) (sym none) ∙ so_far
