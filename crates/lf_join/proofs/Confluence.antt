-- However the logs go, where nothing more can go the same is left.
use Rattle.std.proofs.Common.{◌≡◌, ◌≢◌, ℕ, zero, suc, ◌+◌, ◌<◌, ◌≤◌, Bool, true, false, cond, ◌==◌, inl, inr, List}
use Rattle.std.proofs.Common.{[], ◌∷◌, length, drop, Some, refl, sym, ap, ◌∙◌, subst, eq-eqb, arith}
use Rattle.std.proofs.lemmas.Bool.{cases_eq, and_from}
use Rattle.lf_rules.specs.Address.{no_bank}
use Rattle.lf_rules.specs.Order.{log_at, after_next, entries_of}
use Rattle.lf_rules.specs.Ring.{entry_at}
use Rattle.lf_join.specs.Join.{TakesUpTo, next_number, HasGone, NothingGoes, BanksAreWhole}
use Rattle.lf_join.specs.Heads.{is_next}
use Rattle.lf_join.proofs.Merge.{count, count-append, count-after, joined}
use Rattle.lf_join.proofs.Stuck.{one_of, times_is}
use Rattle.std.proofs.lemmas.List.{length-map}
use Rattle.lf_join.proofs.Orders.{bump, bump_comm, bump_other, after_comm, still_first, Goes, HasNone, none_before}
use Rattle.lf_join.proofs.Orders.{Keeps, keeps_first, keeps_rest}

-- ---- two entries

one_in : (p : ℕ × ℕ → Bool) (xs : List (ℕ × ℕ)) (place : ℕ) (x : ℕ × ℕ) → entry_at xs place ≡ Some x → p x ≡ true →
    1 ≤ count p xs
one_in p [] place x there passes = cc
one_in p (y ∷ xs) zero x there passes =
    let same : y ≡ x = cc in
    omega (arith, count-append p (y ∷ []) xs, one_of p y (subst (λ (e : ℕ × ℕ). p e ≡ true) (sym same) passes))
one_in p (y ∷ xs) (suc place) x there passes = omega (
  arith,
  count-append p (y ∷ []) xs,
  one_in p xs place x there
      passes,
)

pub one_in_joined : (p : ℕ × ℕ → Bool) (logs : List (List (ℕ × ℕ))) (log place : ℕ) (x : ℕ × ℕ) →
    entry_at (log_at logs log) place ≡ Some x → p x ≡ true → 1 ≤ count p (joined logs)
one_in_joined p [] log place x there passes = cc
one_in_joined p (xs ∷ logs) zero place x there passes = omega
    (arith, count-append p xs (joined logs), one_in p xs place x there passes)
one_in_joined p (xs ∷ logs) (suc log) place x there passes =
    omega (arith, count-append p xs (joined logs), one_in_joined p logs log place x there passes)

-- two entries in different logs
pub two_apart : (p : ℕ × ℕ → Bool) (logs : List (List (ℕ × ℕ))) (log other place place' : ℕ) (x y : ℕ × ℕ) → log ≢ other
    → entry_at (log_at logs log) place ≡ Some x → entry_at (log_at logs other) place' ≡ Some y → p x ≡ true →
    p y ≡ true → 2 ≤ count p (joined logs)
two_apart p [] log other place place' x y apart there there' passes passes' = cc
two_apart p (xs ∷ logs) zero zero place place' x y apart there there' passes passes' = absurd (apart refl)
two_apart p (xs ∷ logs) zero (suc other) place place' x y apart there there' passes passes' =
    omega (
      arith,
      count-append p xs (joined logs),
      one_in p xs place x there passes,
      one_in_joined p logs other place'
          y there' passes',
    )
two_apart p (xs ∷ logs) (suc log) zero place place' x y apart there there' passes passes' =
    omega (
      arith,
      count-append p xs (joined logs),
      one_in p xs place' y there' passes',
      one_in_joined p logs log place
          x there passes,
    )
two_apart p (xs ∷ logs) (suc log) (suc other) place place' x y apart there there' passes passes' =
    omega (
      arith,
      count-append p xs (joined logs),
      two_apart p logs log other place place' x y (λ e. apart (ap suc e))
          there there' passes passes',
    )

-- ---- from one state to another

abbrev pub RunsTo : List (List (ℕ × ℕ)) → (ℕ → ℕ) → List ℕ → List (List (ℕ × ℕ)) → (ℕ → ℕ) → Type 0
RunsTo left next [] left' next' = (left ≡ left') × (next ≡ next')
RunsTo left next (log ∷ order) left' next' = (goes : Goes left next log) ×
    RunsTo (after_next left log) (bump next goes.entry.0) order left' next'

abbrev pub IsStuckAt : List (List (ℕ × ℕ)) → (ℕ → ℕ) → Type 0
IsStuckAt left next = (log : ℕ) → Goes left next log → ⊥

abbrev pub of_its_bank : ℕ → ℕ × ℕ → Bool
of_its_bank bank x = x.0 == bank

-- No number below those of the bank is left twice.
abbrev pub AtMostOnce : List (List (ℕ × ℕ)) → (ℕ → ℕ) → Type 0
AtMostOnce left next = (bank k : ℕ) → bank < no_bank → k < next bank + count (of_its_bank bank) (joined left) →
    count (is_next bank k) (joined left) ≤ 1

pub once_after : (left : List (List (ℕ × ℕ))) (next : ℕ → ℕ) (log : ℕ) (goes : Goes left next log) →
    AtMostOnce left next → AtMostOnce (after_next left log) (bump next goes.entry.0)
once_after left next log goes once bank k lt below =
    let x = goes.entry in
    let all = count-after (is_next bank k) left log x goes.first in
    let of_bank = count-after (of_its_bank bank) left log x goes.first in
    let same : bump next x.0 bank ≡ next bank + count (of_its_bank bank) (x ∷ []) = added (x.0 == bank) in
    omega (arith, all, once bank k lt (omega (arith, below, of_bank, same)))
  where
    added : (q : Bool) → cond q (next bank + 1) (next bank) ≡ next bank + length (cond q (goes.entry ∷ []) [])
    added true = refl
    added false = omega arith

pub once_at_end : (left left' : List (List (ℕ × ℕ))) (next next' : ℕ → ℕ) (order : List ℕ) →
    RunsTo left next order left' next' → AtMostOnce left next → AtMostOnce left' next'
once_at_end left left' next next' [] runs once = subst (λ ls. AtMostOnce ls next') runs.0
    (subst (λ (f : ℕ → ℕ). AtMostOnce left f) runs.1 once)
once_at_end left left' next next' (log ∷ order) (goes, runs) once =
    once_at_end (after_next left log) left' (bump next goes.entry.0) next' order runs
    (once_after left next log goes once)

same_first : {x y : ℕ × ℕ} {xs ys : List (ℕ × ℕ)} → x ∷ xs ≡ y ∷ ys → x ≡ y
same_first e = cc

-- A log that can go now may as well go first.
exchange_to : (left left' : List (List (ℕ × ℕ))) (next next' : ℕ → ℕ) (order : List ℕ) (log : ℕ)
    (goes : Goes left next log) → AtMostOnce left next
    → IsStuckAt left' next' → RunsTo left next order left' next'
    → (order' : List ℕ) × RunsTo (after_next left log) (bump next goes.entry.0) order' left' next'
exchange_to left left' next next' [] log goes once stuck runs =
    absurd (stuck log (subst (λ ls. Goes ls next' log) runs.0 (subst (λ (f : ℕ → ℕ). Goes left f log) runs.1 goes)))
exchange_to left left' next next' (m ∷ order) log goes once stuck (goes', runs) =
    elim (cases_eq log m) [
      | inl same ↦ (order, first_of_all log m same goes goes' runs)
      | inr apart ↦
          let other_bank : goes.entry.0 < no_bank → goes'.entry.0 ≢ goes.entry.0 = λ lt same_bank.
          let number : goes'.entry.1 ≡ goes.entry.1 = goes'.carries (subst (λ k. k < no_bank) (sym same_bank) lt)
          ∙ ap next same_bank ∙ sym (goes.carries lt) in
          let some_left = one_in_joined (of_its_bank goes.entry.0) left log 0 goes.entry
          (ap (λ (xs : List (ℕ × ℕ)). entry_at xs 0) goes.first) (eq-eqb goes.entry.0 goes.entry.0 refl) in
          let carries = goes.carries lt in
          let one = once goes.entry.0 goes.entry.1 lt (omega (arith, carries, some_left)) in
          let two =
          two_apart (is_next goes.entry.0 goes.entry.1) left log m 0 0 goes.entry goes'.entry apart
          (ap (λ (xs : List (ℕ × ℕ)). entry_at xs 0) goes.first) (ap (λ (xs : List (ℕ × ℕ)). entry_at xs 0) goes'.first)
          (and_from (goes.entry.0 == goes.entry.0) (goes.entry.1 == goes.entry.1)
          (eq-eqb goes.entry.0 goes.entry.0 refl) (eq-eqb goes.entry.1 goes.entry.1 refl))
          (and_from (goes'.entry.0 == goes.entry.0) (goes'.entry.1 == goes.entry.1)
          (eq-eqb goes'.entry.0 goes.entry.0 same_bank) (eq-eqb goes'.entry.1 goes.entry.1 number)) in
          omega (arith, one, two) in
          let later : Goes (after_next left m) (bump next goes'.entry.0) log = record {
            entry = goes.entry;
            first = still_first left m log goes.entry apart goes.first;
            carries = λ lt. goes.carries lt ∙ sym (bump_other next goes'.entry.0 goes.entry.0 (other_bank lt));
          } in
          let rest = exchange_to (after_next left m) left' (bump next goes'.entry.0) next' order log later
          (once_after left next m goes' once) stuck runs in
          let sooner : Goes (after_next left log) (bump next goes.entry.0) m = record {
            entry = goes'.entry;
            first = still_first left log m goes'.entry (λ e. apart (sym e)) goes'.first;
            carries = λ lt. goes'.carries lt ∙ sym (bump_other next goes.entry.0 goes'.entry.0
                (λ e. other_bank (subst (λ k. k < no_bank) (sym e) lt) (sym e)));
          } in (
            m ∷ rest.0,
            (
              sooner,
              subst (λ ls. RunsTo ls (bump (bump next goes.entry.0) goes'.entry.0) rest.0 left' next')
                  (after_comm left m log (λ e. apart (sym e)))
                  (subst (λ (f : ℕ → ℕ). RunsTo (after_next (after_next left m) log) f rest.0 left' next')
                  (bump_comm next goes'.entry.0 goes.entry.0) rest.1),
            ),
          )
    ]
  where
    first_of_all : (log m : ℕ) → log ≡ m → (goes : Goes left next log) (goes' : Goes left next m) →
        RunsTo (after_next left m) (bump next goes'.entry.0) order left' next'
        → RunsTo (after_next left log) (bump next goes.entry.0) order left' next'
    first_of_all log m same goes goes' runs =
        let head : goes'.entry ≡ goes.entry = same_first (sym goes'.first
        ∙ subst (λ k. log_at left k ≡ goes.entry ∷ drop 1 (log_at left k)) same goes.first) in
        subst (λ k. RunsTo (after_next left k) (bump next goes.entry.0) order left' next') (sym same)
        (subst (λ (e : ℕ × ℕ). RunsTo (after_next left m) (bump next e.0) order left' next') head runs)

-- Two runs to where nothing more can go end in one state.
pub one_end : (left : List (List (ℕ × ℕ))) (next : ℕ → ℕ) (order : List ℕ) (end : List (List (ℕ × ℕ))) (last : ℕ → ℕ)
    (order' : List ℕ) (end' : List (List (ℕ × ℕ))) (last' : ℕ → ℕ)
    → AtMostOnce left next → RunsTo left next order end last → IsStuckAt end last →
    RunsTo left next order' end' last' → IsStuckAt end' last' → (end ≡ end') × (last ≡ last')
one_end left next [] end last [] end' last' once runs stuck runs' stuck' = (sym runs.0 ∙ runs'.0, sym runs.1 ∙ runs'.1)
one_end left next (m ∷ order) end last [] end' last' once runs stuck runs' stuck' =
    absurd (stuck' m (subst (λ ls. Goes ls last' m) runs'.0 (subst (λ (f : ℕ → ℕ). Goes left f m) runs'.1 runs.0)))
one_end left next order end last (l ∷ order') end' last' once runs stuck runs' stuck' =
    let rest = exchange_to left end next last order l runs'.0 once stuck runs in
    one_end (after_next left l) (bump next runs'.0.entry.0) rest.0 end last order' end' last'
    (once_after left next l runs'.0 once) rest.1 stuck runs'.1 stuck'

-- Where a run ends in a state with no order, there was none.
pub none_from : (left left' : List (List (ℕ × ℕ))) (next next' : ℕ → ℕ) (order : List ℕ) →
    RunsTo left next order left' next' → HasNone left' next' → HasNone left next
none_from left left' next next' [] runs none = subst (λ ls. HasNone ls next) (sym runs.0)
    (subst (λ (f : ℕ → ℕ). HasNone left' f) (sym runs.1) none)
none_from left left' next next' (log ∷ order) (goes, runs) none =
    none_before left next log goes (none_from (after_next left log) left' (bump next goes.entry.0) next' order runs
    none)

-- ---- from the definitions

pub runs_to : (left : List (List (ℕ × ℕ))) (next : ℕ → ℕ) (order : List ℕ) (xs : List (ℕ × ℕ))
    (left' : List (List (ℕ × ℕ))) → TakesUpTo left order xs left' → Keeps next xs
    → RunsTo left next order left' (λ bank. next bank + next_number xs bank)
runs_to left next [] [] left' takes keeps = (takes, λ i bank. none (next bank) i)
  where
    none : (n : ℕ) → n ≡ n + 0
    none n = omega arith
runs_to left next [] (x ∷ xs) left' takes keeps = absurd takes
runs_to left next (log ∷ order) [] left' takes keeps = absurd takes
runs_to left next (log ∷ order) (x ∷ xs) left' takes keeps =
    let goes : Goes left next log = record { entry = x; first = takes.0; carries = keeps_first next x xs keeps } in (
      goes,
      subst (λ (f : ℕ → ℕ). RunsTo (after_next left log) (bump next x.0) order left' f) (λ i bank. more bank i)
          (runs_to (after_next left log) (bump next x.0) order xs left' takes.1 (keeps_rest next x xs keeps)),
    )
  where
    go : (q : Bool) (n : ℕ) (es : List (ℕ × ℕ)) → cond q (n + 1) n + length es ≡ n + length (cond q (x ∷ es) es)
    go true n es = omega arith
    go false n es = refl

    more : (bank : ℕ) → bump next x.0 bank + next_number xs bank ≡ next bank + next_number (x ∷ xs) bank
    more bank = go (x.0 == bank) (next bank) (entries_of bank xs)

pub gone_runs : (skeletons : List (List (ℕ × ℕ))) (gone : List (ℕ × ℕ)) (left : List (List (ℕ × ℕ))) →
    HasGone skeletons gone left
    → (order : List ℕ) × RunsTo skeletons (λ _. 0) order left (next_number gone)
gone_runs skeletons gone left h = (
  h.order,
  subst (λ (f : ℕ → ℕ). RunsTo skeletons (λ _. 0) h.order left f)
      (λ i bank. none (next_number gone bank) i) (runs_to skeletons (λ _. 0) h.order gone left h.taken h.kept),
)
  where
    none : (n : ℕ) → 0 + n ≡ n
    none n = omega arith

pub stuck_at : (gone : List (ℕ × ℕ)) (left : List (List (ℕ × ℕ))) → NothingGoes gone left →
    IsStuckAt left (next_number gone)
stuck_at gone left nothing log goes = let stays = nothing log goes.entry
    (ap (λ (xs : List (ℕ × ℕ)). entry_at xs 0) goes.first) in stays.1 (goes.carries stays.0)

pub once_at_start : (skeletons : List (List (ℕ × ℕ))) → BanksAreWhole skeletons → AtMostOnce skeletons (λ _. 0)
once_at_start skeletons whole bank k lt below =
    let len = length-map (entries_of bank (joined skeletons)) (λ (e : ℕ × ℕ). e.1) in
    let once : count (is_next bank k) (joined skeletons) ≡ 1 =
    sym (times_is bank k (joined skeletons)) ∙ whole bank lt k (omega (arith, len, below)) in
    omega (arith, once)
