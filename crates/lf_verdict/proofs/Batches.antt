-- Records that are judged together.
use Rattle.std.proofs.Common.{◌≡◌, ℕ, zero, suc, ◌+◌, ◌<◌, List, [], ◌∷◌, ◌++◌, length, get_or, take, drop, refl, sym}
use Rattle.std.proofs.Common.{ap, ◌∙◌, subst, ⊎_elim, inl, inr, arith, append_assoc, add-one}
use Rattle.std.specs.List.{AllByRecursion}
use Rattle.std.proofs.Math.Seq.{take-suc, get_or-append_seam}
use Rattle.std.proofs.lemmas.List.{append-nil, length-append, get_or_append_left, get_or-take, get_or_past}
use Rattle.std.proofs.lemmas.List.Elements.{filter-append}
use Rattle.std.proofs.lemmas.Bool.{cases_eq, cases_lt}
use Rattle.lf_rules.specs.declared.shape.Shape.{Shape}
use Rattle.lf_rules.specs.declared.event.Record.{Record}
use Rattle.lf_rules.specs.declared.outcome.Outcome.TheVariants as outcomes
use Rattle.lf_rules.specs.Address.{FlatMemory}
use Rattle.lf_rules.specs.Fits.{Fits}
use Rattle.lf_rules.specs.Order.{log_at}
use Rattle.lf_rules.specs.Run.{names, of_bank}
use Rattle.lf_logs.proofs.Splitting.{of_key-push_own, of_key-push_other}
use Rattle.lf_replay.specs.Bytes.{bank_part}
use Rattle.lf_verdict.specs.declared.session.standing.bank_judge.BankJudge.{BankJudge}
use Rattle.lf_verdict.specs.declared.session.standing.Standing.{Standing}
use Rattle.lf_verdict.specs.inner.Coming.{MayCome, MayAllCome}
use Rattle.lf_verdict.specs.Standing.{IsBankSettled, AreEntered, StandsAfterAll}
use Rattle.lf_verdict.specs.inner.Shares.{IsBankUnlessOut, AreBanksAt, CanTakeAll, TakesAll}

-- ---- the records that may come

pub may_at : (shape : Shape) (before rs : List Record) (k : ℕ) (item : Record) → MayAllCome shape before rs →
    k < length rs → item ≡ get_or rs k item → MayCome shape (before ++ take k rs) item
may_at shape before [] k item all lt is = absurd (omega arith)
may_at shape before (r ∷ rs) zero item all lt is =
    subst (λ (xs : List Record). MayCome shape xs item) (sym (append-nil before))
    (subst (MayCome shape before) (sym is) all.0)
may_at shape before (r ∷ rs) (suc k) item all lt is =
    subst (λ (xs : List Record). MayCome shape xs item) (append_assoc before (r ∷ []) (take k rs))
    (may_at shape (before ++ r ∷ []) rs k item all.1 (omega arith) is)

take_one_more : (rs : List Record) (k : ℕ) (item : Record) → k < length rs → item ≡ get_or rs k item →
    take (k + 1) rs ≡ take k rs ++ item ∷ []
take_one_more rs k item lt is =
    ap (λ (n : ℕ). take n rs) (add-one k) ∙ take-suc rs k item lt ∙ ap (λ (r : Record). take k rs ++ r ∷ []) (sym is)

pub one_more : (before rs : List Record) (k : ℕ) (item : Record) → k < length rs → item ≡ get_or rs k item →
    (before ++ take k rs) ++ item ∷ [] ≡ before ++ take (k + 1) rs
one_more before rs k item lt is =
    append_assoc before (take k rs) (item ∷ []) ∙ ap (λ (xs : List Record). before ++ xs)
    (sym (take_one_more rs k item lt is))

pub all_fit : (shape : Shape) (before rs : List Record) → MayAllCome shape before rs → AllByRecursion (Fits shape) rs
all_fit shape before [] all = tt
all_fit shape before (r ∷ rs) all = (all.0.fits, all_fit shape (before ++ r ∷ []) rs all.1)

pub all_join : (P : Record → Type 0) (xs ys : List Record) → AllByRecursion P xs → AllByRecursion P ys →
    AllByRecursion P (xs ++ ys)
all_join P [] ys a b = b
all_join P (x ∷ xs) ys a b = (a.0, all_join P xs ys a.1 b)

pub all_at : (P : Record → Type 0) (rs : List Record) (k : ℕ) (item : Record) → AllByRecursion P rs → k < length rs →
    item ≡ get_or rs k item → P item
all_at P [] k item all lt is = absurd (omega arith)
all_at P (r ∷ rs) zero item all lt is = subst P (sym is) all.0
all_at P (r ∷ rs) (suc k) item all lt is = all_at P rs k item all.1 (omega arith) is

-- the records of one bank
pub own_more : (bank : ℕ) (came rs : List Record) (k : ℕ) (item : Record) → k < length rs → item ≡ get_or rs k item →
    item.bank ≡ bank
    → (came ++ of_bank bank (take k rs)) ++ item ∷ [] ≡ came ++ of_bank bank (take (k + 1) rs)
own_more bank came rs k item lt is named =
    append_assoc came (of_bank bank (take k rs)) (item ∷ [])
    ∙ ap (λ (xs : List Record). came ++ xs) (sym (ap (of_bank bank) (take_one_more rs k item lt is)
    ∙ of_key-push_own (λ r. r.bank) bank (take k rs) item named))

pub other_more : (bank : ℕ) (came rs : List Record) (k : ℕ) (item : Record) → k < length rs →
    item ≡ get_or rs k item → (item.bank ≡ bank → ⊥)
    → came ++ of_bank bank (take k rs) ≡ came ++ of_bank bank (take (k + 1) rs)
other_more bank came rs k item lt is other =
    ap (λ (xs : List Record). came ++ xs) (sym (ap (of_bank bank) (take_one_more rs k item lt is)
    ∙ of_key-push_other (λ r. r.bank) bank (take k rs) item other))

-- the first of the records that may come
pub first_come : (shape : Shape) (before xs ys : List Record) → MayAllCome shape before (xs ++ ys) →
    MayAllCome shape before xs
first_come shape before [] ys all = tt
first_come shape before (x ∷ xs) ys all = (all.0, first_come shape (before ++ x ∷ []) xs ys all.1)

-- ---- all banks

chosen : (n : ℕ) (P : ℕ → List Record → Type 0) → ((i : ℕ) → i < n → (xs : List Record) × P i xs) →
    (all : List (List Record)) × ((length all ≡ n) × ((i : ℕ) → i < n → P i (log_at all i)))
chosen zero P each = ([], (refl, λ i lt. absurd (omega arith)))
chosen (suc n) P each =
    let before = chosen n P (λ i lt. each i (omega arith)) in
    let here = each n (omega arith) in (
      before.0 ++ here.0 ∷ [],
      (
        omega (arith, length-append before.0 (here.0 ∷ []), before.1.0),
        λ i lt. ⊎_elim
            (λ (same : i ≡ n).
            subst (P i) (sym (ap (λ (k : ℕ). log_at (before.0 ++ here.0 ∷ []) k) (same ∙ sym before.1.0)
            ∙ get_or-append_seam before.0 here.0 [] [])) (subst (λ (k : ℕ). P k here.0) (sym same) here.1))
            (λ (other : i ≡ n → ⊥).
            subst (P i) (sym (get_or_append_left before.0 (here.0 ∷ []) [] i (omega (arith, before.1.0))))
            (before.1.1 i (omega arith)))
            (cases_eq i n),
      ),
    )

pub place_at : {X : Type 0} (xs : List X) (i : ℕ) → i < length xs → (x : X) × ((d : X) → get_or xs i d ≡ x)
place_at [] i lt = absurd (omega arith)
place_at (x ∷ xs) zero lt = (x, λ d. refl)
place_at (x ∷ xs) (suc i) lt = place_at xs i (omega arith)

-- the banks were judged on these records too
pub banks_too : (shape : Shape) (memory : FlatMemory) (before rs : List Record) (old new : List BankJudge) →
    AreBanksAt shape memory before old → AllByRecursion (Fits shape) rs → length new ≡ length old
    → ((bank : ℕ) (x : BankJudge) → bank < length old → get_or new bank x ≡ x → TakesAll bank rs (get_or old bank x) x)
    → AreBanksAt shape memory (before ++ rs) new
banks_too shape memory before rs old new at fits long each = record {
  count = long ∙ at.count;
  each = λ bank d lt.
      let here = place_at new bank (omega (arith, long, at.count)) in
      let x = here.0 in
      subst (IsBankUnlessOut shape (bank_part shape bank memory) bank (of_bank bank (before ++ rs))) (sym (here.1 d))
      (subst (λ (came : List Record). IsBankUnlessOut shape (bank_part shape bank memory) bank came x)
      (sym (filter-append (names bank) before rs))
      (each bank x (omega (arith, at.count)) (here.1 x) shape (bank_part shape bank memory) (of_bank bank before) fits
      (at.each bank x lt)));
}

pub can_take : (shape : Shape) (memory : FlatMemory) (before rs : List Record) (banks : List BankJudge) →
    AreBanksAt shape memory before banks → AllByRecursion (Fits shape) rs
    → (bank : ℕ) (d : BankJudge) → bank < length banks → CanTakeAll bank rs (get_or banks bank d)
can_take shape memory before rs banks at fits bank d lt = record {
  shape = shape;
  memory = bank_part shape bank memory;
  came = of_bank bank before;
  fit = fits;
  judged = at.each bank d (omega (arith, at.count));
}

-- both shares together, where memory ran out for no bank
pub stands_together : (shape : Shape) (memory : FlatMemory) (records : List Record) (s : Standing) →
    AllByRecursion (Fits shape) records → AreEntered shape records s.entries
    → AreBanksAt shape memory records s.banks.items
    → ((bank : ℕ) (d : BankJudge) → bank < length s.banks.items →
    (get_or s.banks.items bank d).outcome ≡ outcomes.NoMemory → ⊥)
    → StandsAfterAll shape memory records s
stands_together shape memory records s fits entered at fine =
    let all = chosen shape.banks given banks in
    record {
      fit = fits;
      entered = entered;
      count_banks = at.count;
      given = all.0;
      count_given = all.1.0;
      banks = λ bank d lt. all.1.1 bank lt d;
    }
  where
    given : ℕ → List Record → Type 0
    given bank more = (d : BankJudge) → IsBankSettled shape (bank_part shape bank memory) bank (of_bank bank records)
        more (get_or s.banks.items bank d)

    banks : (bank : ℕ) → bank < shape.banks → (more : List Record) × given bank more
    banks bank lt =
        let within : bank < length s.banks.items = omega (arith, at.count) in
        let here = place_at s.banks.items bank within in
        let x = here.0 in
        let judged = at.each bank x lt (fine bank x within) in (
          judged.0,
          λ d.
              subst (IsBankSettled shape (bank_part shape bank memory) bank (of_bank bank records) judged.0)
              (here.1 x ∙ sym (here.1 d)) judged.1,
        )

-- what stands where a slice was written back
pub written_at : {X : Type 0} (xs ws : List X) (n i : ℕ) (x : X) → i < n →
    get_or (take n (ws ++ drop (length ws) xs)) i x ≡ x → get_or ws i x ≡ x
written_at xs ws n i x lt at =
    elim (cases_lt i (length ws)) [
      | inl inside ↦ sym (get_or_append_left ws (drop (length ws) xs) x i inside)
          ∙ sym (get_or-take n (ws ++ drop (length ws) xs) i x lt) ∙ at
      | inr past ↦ get_or_past ws i x past
    ]
