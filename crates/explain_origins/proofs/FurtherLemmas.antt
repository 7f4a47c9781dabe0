-- One part more, and the first record for which a test holds.
use Rattle.std.proofs.Common.{◌≡◌, ℕ, ◌+◌, ◌<◌, Bool, true, false, List, [], ◌∷◌, ◌++◌, map, length, get_or, drop}
use Rattle.std.proofs.Common.{Option}
use Rattle.std.proofs.Common.{Some, sym, ap, ◌∙◌, subst, suc, add-one, if◌then◌else◌}
use mathlib.Core.Path.{ap₂}
use Rattle.std.specs.List.{AllByRecursion}
use Rattle.std.proofs.lemmas.List.{map-append, drop_more}
use Rattle.lf_rules.specs.declared.event.Event.TheVariants as events
use Rattle.lf_rules.specs.declared.event.Record.{Record}
use Rattle.lf_rules.specs.declared.shape.Shape.{Shape}
use Rattle.explain_origins.specs.declared.origins.Origins.{Origins}
use Rattle.explain_origins.specs.declared.parts.StatePart.{StatePart}
use Rattle.explain_origins.specs.Further.{first_from, records_in, AreOf}

all_snoc : {X : Type 0} (P : X → Type 0) (xs : List X) (x : X) → AllByRecursion P xs → P x
    → AllByRecursion P (xs ++ x ∷ [])
all_snoc P [] x all more = (more, tt)
all_snoc P (y ∷ xs) x all more = (all.0, all_snoc P xs x all.1 more)

abbrev HasItsRecords : Shape → List Record → List (Option ℕ) → Origins → Type 0
HasItsRecords shape rs before one = one.records.items ≡ records_in shape rs before one.part

pub of_more : (shape : Shape) (rs : List Record) (before : List (Option ℕ)) (parts : List StatePart)
    (all new : List Origins) (one : Origins) (part : StatePart) → AreOf shape rs before parts all
    → one.part ≡ part → one.records.items ≡ records_in shape rs before part
    → new ≡ all ++ one ∷ []
    → AreOf shape rs before (parts ++ part ∷ []) new
of_more shape rs before parts all new one part are is places pushed = record {
  parts_are = ap (map (λ (o : Origins). o.part)) pushed ∙ map-append (λ (o : Origins). o.part) all (one ∷ [])
      ∙ ap₂ (λ (ps : List StatePart) p. ps ++ p ∷ []) are.parts_are is;
  each = subst (AllByRecursion (HasItsRecords shape rs before)) (sym pushed)
      (all_snoc (HasItsRecords shape rs before) all one are.each
      (places ∙ ap (records_in shape rs before) (sym is)));
}

-- what a place beyond the records has
abbrev pub no_record : Record
no_record = record { log = 0; bank = 0; number = 0; event = events.Fence }

first_cons : (holds : Record → Bool) (k : ℕ) (rs : List Record) (r : Record) → k < length rs
    → r ≡ get_or rs k no_record → first_from holds k (drop k rs) ≡ first_from holds k (r ∷ drop (k + 1) rs)
first_cons holds k rs r lt is =
    ap (first_from holds k) (drop_more rs k no_record lt)
    ∙ ap (λ (x : Record). first_from holds k (x ∷ drop (k + 1) rs)) (sym is)

pub first_here : (holds : Record → Bool) (k : ℕ) (rs : List Record) (r : Record) → k < length rs
    → r ≡ get_or rs k no_record → holds r ≡ true → first_from holds k (drop k rs) ≡ Some k
first_here holds k rs r lt is here =
    first_cons holds k rs r lt is
    ∙ ap (λ (b : Bool). if b then Some k else first_from holds (suc k) (drop (k + 1) rs)) here

pub first_later : (holds : Record → Bool) (k : ℕ) (rs : List Record) (r : Record) → k < length rs
    → r ≡ get_or rs k no_record → holds r ≡ false
    → first_from holds k (drop k rs) ≡ first_from holds (k + 1) (drop (k + 1) rs)
first_later holds k rs r lt is not_here =
    first_cons holds k rs r lt is
    ∙ ap (λ (b : Bool). if b then Some k else first_from holds (suc k) (drop (k + 1) rs)) not_here
    ∙ ap (λ (n : ℕ). first_from holds n (drop (k + 1) rs)) (sym (add-one k))
