-- Two runs over one trace that tell what broke tell the same.
use Rattle.std.proofs.Common.{◌≡◌, ◌⊎◌, ℕ, List, [], ◌∷◌, ◌++◌, Option, Some, None, refl, sym, ap, ◌∙◌, subst, inl, inr}
use Rattle.std.proofs.Common.{⊎_elim, append-nil}
use Rattle.std.specs.Prelude.{IfSome, IfNone}
use Rattle.std.specs.Io.KnownBytes.{Consumes, IsAtEnd}
use Rattle.lf_rules.specs.declared.shape.Shape.{Shape}
use Rattle.lf_codec.specs.declared.fault.CodecFault.{CodecFault}
use Rattle.lf_codec.specs.Laws.{AreBytes, FaultsSoFarAreNotTruncated, FaultsStand}
use Rattle.lf_codec.specs.Reading.{fault_so_far}
use Rattle.lf_verdict.specs.declared.answer.Outcome.{Outcome}
use Rattle.lf_verdict.specs.declared.answer.Outcome.TheVariants.{Refused}
use Rattle.lf_verdict.specs.declared.answer.Refusal.TheVariants.{Format}
use Rattle.lf_verdict.specs.declared.session.breaking.Broken.{Broken}
use Rattle.lf_verdict.specs.declared.session.conclusion.Conclusion.{Conclusion}
use Rattle.lf_verdict.specs.Conclusion.{IsConclusion}
use Rattle.lf_verdict.specs.Final.{IsEarliest, IsToldFirst, OneIsEarliest, EarliestStays, NoneBreaksBehind}
use Rattle.lf_verdict.specs.Laws.{OneOutcome}
use Rattle.lf_verdict.specs.Named.{NoneBrokeSoFar}
use Rattle.lf_verdict.specs.Outcome.{IsDecidedOutcome, IsOutcomeOf}
use Rattle.lf_verdict.proofs.Aheads.{bytes_behind}
use Rattle.run_engine.specs.Asks.{watched_line}
use Rattle.run_engine.specs.Gathered.{HasEnough}
use Rattle.run_engine.specs.Needs.{watch_needs}
use Rattle.run_engine.specs.Watching.{HasWatched, WatchesAreOne}
use Rattle.run_engine.proofs.GatheringLemmas.{none_stands}

-- ---- what was read of one list

-- One is the beginning of the other, and this stands behind it.
abbrev BeginsWith : List ℕ → List ℕ → List ℕ → List ℕ → Type 0
BeginsWith xs ys us vs = (zs : List ℕ) × ((ys ≡ xs ++ zs) × (us ≡ zs ++ vs))

same_front : (x y : ℕ) (us vs : List ℕ) → x ∷ us ≡ y ∷ vs → (x ≡ y) × (us ≡ vs)
same_front x y us vs e = (ap first e, ap rest e)
  where
    first : List ℕ → ℕ
    first [] = x
    first (b ∷ bs) = b

    rest : List ℕ → List ℕ
    rest [] = us
    rest (b ∷ bs) = bs

one_begins : (xs ys us vs : List ℕ) → xs ++ us ≡ ys ++ vs → BeginsWith xs ys us vs ⊎ BeginsWith ys xs vs us
one_begins [] ys us vs e = inl (ys, (refl, e))
one_begins (x ∷ xs) [] us vs e = inr (x ∷ xs, (refl, sym e))
one_begins (x ∷ xs) (y ∷ ys) us vs e =
    let front = same_front x y (xs ++ us) (ys ++ vs) e in
    ⊎_elim
    (λ (m : BeginsWith xs ys us vs).
    inl (m.0, (ap (λ (bs : List ℕ). y ∷ bs) m.1.0 ∙ ap (λ (b : ℕ). b ∷ (xs ++ m.0)) (sym front.0), m.1.1)))
    (λ (m : BeginsWith ys xs vs us).
    inr (m.0, (ap (λ (bs : List ℕ). x ∷ bs) m.1.0 ∙ ap (λ (b : ℕ). b ∷ (ys ++ m.0)) front.0, m.1.1)))
    (one_begins xs ys us vs front.1)

none_in_front : (xs ys : List ℕ) → xs ++ ys ≡ [] → xs ≡ []
none_in_front [] ys e = refl
none_in_front (x ∷ xs) ys e = absurd (cc)

-- ---- what a run read

-- These bytes were read of all, and they are all where they are not enough.
record HasReadOf (shape : Shape) (all bytes : List ℕ) : Type 0 where
  pub left : List ℕ
  pub are : AreBytes bytes
  pub split : all ≡ bytes ++ left
  pub ended : ¬ HasEnough watch_needs shape bytes → left ≡ []

read_of : (shape : Shape) (all : List ℕ) (c : Conclusion) (text : List ℕ) → HasWatched all shape c text →
    HasReadOf shape all c.fed.bytes
read_of shape all c text w =
    let reads = w.of_read.reads w.decided in
    go w.new.known reads.are_bytes
    (subst (λ (known : Option (List ℕ)). Consumes known w.new.known c.fed.bytes) w.known reads.all.given)
    reads.all.at_end
  where
    go : (known : Option (List ℕ)) → AreBytes c.fed.bytes → Consumes (Some all) known c.fed.bytes
        → (¬ HasEnough watch_needs shape c.fed.bytes → IsAtEnd known) → HasReadOf shape all c.fed.bytes
    go None are given ended = absurd given
    go (Some left) are given ended = record { left = left; are = are; split = given; ended = ended }

-- ---- one read as far as the other or further

none_wanted_more : FaultsSoFarAreNotTruncated → (shape : Shape) (bytes : List ℕ) → fault_so_far bytes ≡ None →
    NoneBrokeSoFar shape bytes → HasEnough watch_needs shape bytes → ⊥
unfolding HasEnough
none_wanted_more so_far shape bytes fine none (inl fault) = none_stands so_far bytes fine fault
none_wanted_more so_far shape bytes fine none (inr broken) = broken.1 none

module _ (one : OneIsEarliest) (stays : EarliestStays) (behind : NoneBreaksBehind) (outcomes : OneOutcome)
    (so_far : FaultsSoFarAreNotTruncated) (stand : FaultsStand) (shape : Shape) where
  module _ (c other : Conclusion) (more : List ℕ) (are : AreBytes c.fed.bytes) (are_more : AreBytes more)
      (are_all : AreBytes other.fed.bytes) (longer : other.fed.bytes ≡ c.fed.bytes ++ more)
      (is : IsConclusion watch_needs.asked shape c) (decided : IsDecidedOutcome c.outcome)
      (is' : IsConclusion watch_needs.asked shape other) (decided' : IsDecidedOutcome other.outcome)
      (ended : ¬ HasEnough watch_needs shape c.fed.bytes → more ≡ []) where
    abbrev Told : Type 0
    Told = watched_line c.outcome c.broken ≡ watched_line other.outcome other.broken

    told' : IsToldFirst shape other.fed.bytes other.broken
    told' = record { earliest = is'.earliest; none = is'.none_so_far decided' refl }

    both : (found : Option Broken) → c.broken ≡ found → IsToldFirst shape other.fed.bytes found →
        (found ≡ None → c.outcome ≡ other.outcome) → Told
    both found e told same = ap (watched_line c.outcome) e ∙ line found same
        ∙ ap (watched_line other.outcome) (one shape other.fed.bytes found other.broken told told')
      where
        line : (found : Option Broken) → (found ≡ None → c.outcome ≡ other.outcome) →
            watched_line c.outcome found ≡ watched_line other.outcome found
        line (Some x) same = refl
        line None same = ap (λ (o : Outcome). watched_line o None) (same refl)

    of_found : (found : Broken) → c.broken ≡ Some found → Told
    of_found found e = both (Some found) e (record {
      earliest = subst (λ (bytes : List ℕ). IsEarliest shape bytes found) (sym longer)
          (stays shape c.fed.bytes more found are are_more
          (subst (λ (o : Option Broken). IfSome o (IsEarliest shape c.fed.bytes)) e is.earliest));
      none = tt;
    }) (λ none. let no : Some found ≡ None = none in absurd (cc))

    of_fault : (fault : CodecFault) → fault_so_far c.fed.bytes ≡ Some fault → c.broken ≡ None →
        NoneBrokeSoFar shape c.fed.bytes → Told
    of_fault fault stands e none = both None e (record {
      earliest = tt;
      none = subst (NoneBrokeSoFar shape) (sym longer) (behind shape c.fed.bytes more fault stands none);
    }) (λ _. outcomes shape c.fed.bytes c.outcome (Refused (Format fault)) are (is.outcome decided)
        ((so_far c.fed.bytes fault).0 stands).0
        ∙ outcomes shape other.fed.bytes (Refused (Format fault)) other.outcome are_all
        (subst (λ (bytes : List ℕ). IsOutcomeOf shape bytes (Refused (Format fault))) (sym longer)
        (stand c.fed.bytes more fault stands).whole)
        (is'.outcome decided'))

    of_all : fault_so_far c.fed.bytes ≡ None → c.broken ≡ None → NoneBrokeSoFar shape c.fed.bytes → Told
    of_all fine e none =
        let nothing : more ≡ [] = ended (none_wanted_more so_far shape c.fed.bytes fine none) in
        let same : other.fed.bytes ≡ c.fed.bytes =
        longer ∙ ap (λ (m : List ℕ). c.fed.bytes ++ m) nothing ∙ append-nil c.fed.bytes in
        both None e (record { earliest = tt; none = subst (NoneBrokeSoFar shape) (sym same) none })
        (λ _. outcomes shape c.fed.bytes c.outcome other.outcome are (is.outcome decided)
        (subst (λ (bytes : List ℕ). IsOutcomeOf shape bytes other.outcome) same (is'.outcome decided')))

    of_longer : Told
    of_longer = go c.broken refl (is.none_so_far decided refl)
      where
        fault_or : (found : Option CodecFault) → fault_so_far c.fed.bytes ≡ found → c.broken ≡ None →
            NoneBrokeSoFar shape c.fed.bytes → Told
        fault_or (Some fault) stands e none = of_fault fault stands e none
        fault_or None fine e none = of_all fine e none

        go : (found : Option Broken) → c.broken ≡ found
            → IfNone found (NoneBrokeSoFar shape c.fed.bytes) → Told
        go (Some found) e none = of_found found e
        go None e none = fault_or (fault_so_far c.fed.bytes) refl e none

  -- ---- two runs over one trace

  of_longer_read : (all : List ℕ) (c other : Conclusion) (text text' : List ℕ) → HasWatched all shape c text →
      HasWatched all shape other text' → (a : HasReadOf shape all c.fed.bytes) (b : HasReadOf shape all other.fed.bytes)
      → BeginsWith c.fed.bytes other.fed.bytes a.left b.left → text ≡ text'
  of_longer_read all c other text text' w w' a b begins =
      w.due ∙ of_longer c other begins.0 a.are
      (bytes_behind c.fed.bytes begins.0 (subst AreBytes begins.1.0 b.are)) b.are begins.1.0 w.of_read.is w.decided
      w'.of_read.is w'.decided (λ wanted. none_in_front begins.0 b.left (sym begins.1.1 ∙ a.ended wanted))
      ∙ sym w'.due

pub watches_are_one : OneIsEarliest → EarliestStays → NoneBreaksBehind → OneOutcome → FaultsSoFarAreNotTruncated →
    FaultsStand → WatchesAreOne
watches_are_one one stays behind outcomes so_far stand all shape c other text text' w w' =
    let a = read_of shape all c text w in
    let b = read_of shape all other text' w' in
    ⊎_elim
    (λ (begins : BeginsWith c.fed.bytes other.fed.bytes a.left b.left).
    of_longer_read one stays behind outcomes so_far stand shape all c other text text' w w' a b begins)
    (λ (begins : BeginsWith other.fed.bytes c.fed.bytes b.left a.left).
    sym (of_longer_read one stays behind outcomes so_far stand shape all other c text' text w' w b a begins))
    (one_begins c.fed.bytes other.fed.bytes a.left b.left (sym a.split ∙ b.split))
