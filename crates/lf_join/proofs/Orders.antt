-- Orders, step by step: what is left of the logs, and for each bank the number that goes next.
use Rattle.std.proofs.Common.{◌≡◌, ◌≢◌, ℕ, suc, ◌+◌, ◌<◌, ◌≤◌, Bool, true, false, cond, ◌==◌, inl, inr, List, [], ◌∷◌}
use Rattle.std.proofs.Common.{map, length, drop, get_or, set, refl, sym, ap, ◌∙◌, subst, eqb-true, eq-eqb, arith}
use mathlib.Core.Path.{ap₂}
use Rattle.std.specs.List.{range_with_len}
use Rattle.std.proofs.lemmas.Bool.{cases_Bool, cases_eq, cases_lt, cond-true, cond-false}
use Rattle.std.proofs.lemmas.List.{get_or-set_same, get_or-set_other, set_past, get_or_past, set_comm}
use Rattle.lf_rules.specs.Address.{no_bank}
use Rattle.lf_rules.specs.Order.{log_at, after_next, Takes, entries_of, IsOrder, IsNotAbove, IsLeastOrder}

-- ---- what is left of the logs

module _ {T : Type 0} where
  pub after_same : (logs : List (List T)) (log : ℕ) → log_at (after_next logs log) log ≡ drop 1 (log_at logs log)
  after_same logs log =
      elim (cases_lt log (length logs)) [
        | inl within ↦ get_or-set_same logs log (drop 1 (log_at logs log)) [] within
        | inr past ↦
            let nothing : log_at logs log ≡ [] = get_or_past logs log [] past in
            ap (λ (ls : List (List T)). get_or ls log []) (set_past logs log (drop 1 (log_at logs log)) past)
            ∙ nothing ∙ sym (ap (drop 1) nothing)
      ]

  pub after_other : (logs : List (List T)) (log other : ℕ) → other ≢ log →
      log_at (after_next logs log) other ≡ log_at logs other
  after_other logs log other apart = get_or-set_other logs log other (drop 1 (log_at logs log)) [] apart

  pub after_comm : (logs : List (List T)) (log other : ℕ) → log ≢ other →
      after_next (after_next logs log) other ≡ after_next (after_next logs other) log
  after_comm logs log other apart =
      ap (λ (xs : List T). set (after_next logs log) other (drop 1 xs))
      (after_other logs log other (λ e. apart (sym e)))
      ∙ set_comm logs log other (drop 1 (log_at logs log)) (drop 1 (log_at logs other)) apart
      ∙ ap (λ (xs : List T). set (after_next logs other) log (drop 1 xs)) (sym (after_other logs other log apart))

-- ---- the numbers that go next

abbrev pub bump : (ℕ → ℕ) → ℕ → ℕ → ℕ
bump next bank n = cond (bank == n) (next n + 1) (next n)

pub bump_comm : (next : ℕ → ℕ) (a b : ℕ) → bump (bump next a) b ≡ bump (bump next b) a
bump_comm next a b = λ i n. at n i
  where
    at : (n : ℕ) → bump (bump next a) b n ≡ bump (bump next b) a n
    at n = go (a == n) (b == n)
      where
        go : (p q : Bool) → cond q (cond p (next n + 1) (next n) + 1) (cond p (next n + 1) (next n))
            ≡ cond p (cond q (next n + 1) (next n) + 1) (cond q (next n + 1) (next n))
        go true true = refl
        go true false = refl
        go false true = refl
        go false false = refl

bump_le : (next : ℕ → ℕ) (bank n : ℕ) → next n ≤ bump next bank n
bump_le next bank n = elim (cases_Bool (bank == n)) [
  | inl e ↦ subst (λ k. next n ≤ k) (sym (cond-true (bank == n) (next n + 1) (next n) e)) (omega arith)
  | inr e ↦ subst (λ k. next n ≤ k) (sym (cond-false (bank == n) (next n + 1) (next n) e)) (omega arith)
]

pub bump_same : (next : ℕ → ℕ) (bank n : ℕ) → bank ≡ n → bump next bank n ≡ next n + 1
bump_same next bank n e = cond-true (bank == n) (next n + 1) (next n) (eq-eqb bank n e)

pub bump_other : (next : ℕ → ℕ) (bank n : ℕ) → bank ≢ n → bump next bank n ≡ next n
bump_other next bank n apart = elim (cases_Bool (bank == n)) [
  | inl e ↦ absurd (apart (eqb-true bank n e))
  | inr e ↦ cond-false (bank == n) (next n + 1) (next n) e
]

-- ---- runs

-- The log's next entry names no bank, or carries its bank's next number.
pub record Goes (left : List (List (ℕ × ℕ))) (next : ℕ → ℕ) (log : ℕ) : Type 0 where
  pub entry : ℕ × ℕ
  pub first : log_at left log ≡ entry ∷ drop 1 (log_at left log)
  pub carries : entry.0 < no_bank → entry.1 ≡ next entry.0

-- The order takes what is left, each entry of a bank with the bank's next number.
abbrev pub Runs : List (List (ℕ × ℕ)) → (ℕ → ℕ) → List ℕ → Type 0
Runs left next [] = (log : ℕ) → log_at left log ≡ []
Runs left next (log ∷ order) = (goes : Goes left next log) × Runs (after_next left log) (bump next goes.entry.0) order

same_first : {x y : ℕ × ℕ} {xs ys : List (ℕ × ℕ)} → x ∷ xs ≡ y ∷ ys → x ≡ y
same_first e = cc

nothing_first : {x : ℕ × ℕ} {xs : List (ℕ × ℕ)} → ◌≡◌ {A = List (ℕ × ℕ)} [] (x ∷ xs) → ⊥
nothing_first e = cc

pub same_entry : (left : List (List (ℕ × ℕ))) (next next' : ℕ → ℕ) (log : ℕ) →
    (a : Goes left next log) (b : Goes left next' log) → a.entry ≡ b.entry
same_entry left next next' log a b = same_first (sym a.first ∙ b.first)

-- another log's next entry stays next
pub still_first : (left : List (List (ℕ × ℕ))) (log other : ℕ) (x : ℕ × ℕ) → other ≢ log →
    log_at left other ≡ x ∷ drop 1 (log_at left other)
    → log_at (after_next left log) other ≡ x ∷ drop 1 (log_at (after_next left log) other)
still_first left log other x apart first = subst (λ xs. xs ≡ x ∷ drop 1 xs) (sym (after_other left log other apart))
    first

-- An entry whose number has passed never goes.
stale : (left : List (List (ℕ × ℕ))) (next : ℕ → ℕ) (order : List ℕ) (log : ℕ) (x : ℕ × ℕ)
    → log_at left log ≡ x ∷ drop 1 (log_at left log) → x.0 < no_bank → x.1 < next x.0 → Runs left next order → ⊥
stale left next [] log x first is_bank small runs = nothing_first (sym (runs log) ∙ first)
stale left next (m ∷ order) log x first is_bank small (goes, runs) =
    elim (cases_eq log m) [
      | inl same ↦
          let head : x ≡ goes.entry = same_first (sym first
          ∙ subst (λ k. log_at left k ≡ goes.entry ∷ drop 1 (log_at left k)) (sym same) goes.first) in
          let carries : x.1 ≡ next x.0 = subst (λ (e : ℕ × ℕ). e.0 < no_bank → e.1 ≡ next e.0) (sym head) goes.carries
          is_bank in
          omega (arith, carries, small)
      | inr apart ↦
          let le = bump_le next goes.entry.0 x.0 in
          stale (after_next left m) (bump next goes.entry.0) order log x (still_first left m log x apart first)
          is_bank (omega (arith, le, small)) runs
    ]

-- A log that can go now may as well go first.
pub exchange : (left : List (List (ℕ × ℕ))) (next : ℕ → ℕ) (order : List ℕ) (log : ℕ) (goes : Goes left next log)
    → Runs left next order → (order' : List ℕ) × Runs (after_next left log) (bump next goes.entry.0) order'
exchange left next [] log goes runs = absurd (nothing_first (sym (runs log) ∙ goes.first))
exchange left next (m ∷ order) log goes (goes', runs) =
    elim (cases_eq log m) [
      | inl same ↦ (order, first_of_all log m same goes goes' runs)
      | inr apart ↦
          let other_bank : goes.entry.0 < no_bank → goes'.entry.0 ≢ goes.entry.0 = λ lt same_bank.
          stale (after_next left m) (bump next goes'.entry.0) order log goes.entry
          (still_first left m log goes.entry apart goes.first)
          lt (omega (arith, bump_same next goes'.entry.0 goes.entry.0 same_bank, goes.carries lt)) runs in
          let later : Goes (after_next left m) (bump next goes'.entry.0) log = record {
            entry = goes.entry;
            first = still_first left m log goes.entry apart goes.first;
            carries = λ lt. goes.carries lt ∙ sym (bump_other next goes'.entry.0 goes.entry.0 (other_bank lt));
          } in
          let rest = exchange (after_next left m) (bump next goes'.entry.0) order log later runs in
          let sooner : Goes (after_next left log) (bump next goes.entry.0) m = record {
            entry = goes'.entry;
            first = still_first left log m goes'.entry (λ e. apart (sym e)) goes'.first;
            carries = λ lt. goes'.carries lt ∙ sym (bump_other next goes.entry.0 goes'.entry.0
                (λ e. other_bank (subst (λ k. k < no_bank) (sym e) lt) (sym e)));
          } in (
            m ∷ rest.0,
            (
              sooner,
              subst (λ ls. Runs ls (bump (bump next goes.entry.0) goes'.entry.0) rest.0)
                  (after_comm left m log (λ e. apart (sym e)))
                  (subst (λ (f : ℕ → ℕ). Runs (after_next (after_next left m) log) f rest.0)
                  (bump_comm next goes'.entry.0 goes.entry.0) rest.1),
            ),
          )
    ]
  where
    first_of_all : (log m : ℕ) → log ≡ m → (goes : Goes left next log) (goes' : Goes left next m) →
        Runs (after_next left m) (bump next goes'.entry.0) order
        → Runs (after_next left log) (bump next goes.entry.0) order
    first_of_all log m same goes goes' runs =
        let there : Goes left next m = subst (λ k. Goes left next k) same goes in
        let head : goes'.entry ≡ goes.entry = same_first (sym goes'.first
        ∙ subst (λ k. log_at left k ≡ goes.entry ∷ drop 1 (log_at left k)) same goes.first) in
        subst (λ k. Runs (after_next left k) (bump next goes.entry.0) order) (sym same)
        (subst (λ (e : ℕ × ℕ). Runs (after_next left m) (bump next e.0) order) head runs)

-- ---- the least run

pub record IsLeastRun (left : List (List (ℕ × ℕ))) (next : ℕ → ℕ) (order : List ℕ) : Type 0 where
  pub runs : Runs left next order
  pub least : (other : List ℕ) → Runs left next other → IsNotAbove order other

abbrev pub HasNone : List (List (ℕ × ℕ)) → (ℕ → ℕ) → Type 0
HasNone left next = (order : List ℕ) → Runs left next order → ⊥

-- The least log that can go goes first.
pub least_goes_first : (left : List (List (ℕ × ℕ))) (next : ℕ → ℕ) (log : ℕ) (goes : Goes left next log) →
    ((k : ℕ) → k < log → Goes left next k → ⊥)
    → (order : List ℕ) → IsLeastRun (after_next left log) (bump next goes.entry.0) order →
    IsLeastRun left next (log ∷ order)
least_goes_first left next log goes none_below order rest = record {
  runs = (goes, rest.runs);
  least = below;
}
  where
    below : (other : List ℕ) → Runs left next other → IsNotAbove (log ∷ order) other
    below [] runs = absurd (nothing_first (sym (runs log) ∙ goes.first))
    below (m ∷ other) (goes', runs) =
        elim (cases_lt log m) [
          | inl lt ↦ inl lt
          | inr le ↦ (elim (cases_lt m log) [
            | inl above ↦ absurd (none_below m above goes')
            | inr le' ↦
                let same : log ≡ m = omega arith in
                let head : goes'.entry ≡ goes.entry = same_first
                (sym goes'.first ∙ subst (λ k. log_at left k ≡ goes.entry ∷ drop 1 (log_at left k)) same
                goes.first) in
                inr (
                  same,
                  rest.least other
                      (subst (λ k. Runs (after_next left k) (bump next goes.entry.0) other) (sym same)
                      (subst (λ (e : ℕ × ℕ). Runs (after_next left m) (bump next e.0) other) head runs)),
                )
          ])
        ]

-- Where none is left once a log that can go has gone, there was none.
pub none_before : (left : List (List (ℕ × ℕ))) (next : ℕ → ℕ) (log : ℕ) (goes : Goes left next log)
    → HasNone (after_next left log) (bump next goes.entry.0) → HasNone left next
none_before left next log goes none order runs = let rest = exchange left next order log goes runs in none rest.0 rest.1

pub least_at_end : (left : List (List (ℕ × ℕ))) (next : ℕ → ℕ) → ((log : ℕ) → log_at left log ≡ []) →
    IsLeastRun left next []
least_at_end left next empty = record { runs = empty; least = λ other runs. tt }

pub none_where_stuck : (left : List (List (ℕ × ℕ))) (next : ℕ → ℕ) → ((log : ℕ) → Goes left next log → ⊥) →
    (log : ℕ) → log_at left log ≢ [] → HasNone left next
none_where_stuck left next stuck log some_left [] runs = some_left (runs log)
none_where_stuck left next stuck log some_left (m ∷ order) (goes, runs) = stuck m goes

-- ---- runs and orders

abbrev pub Keeps : (ℕ → ℕ) → List (ℕ × ℕ) → Type 0
Keeps next xs = (bank : ℕ) → bank < no_bank → map (λ (e : ℕ × ℕ). e.1) (entries_of bank xs)
    ≡ range_with_len (next bank) (length (entries_of bank xs))

first_number : (a b n : ℕ) (rest : List ℕ) → a ∷ rest ≡ range_with_len b (suc n) → (a ≡ b) ×
    (rest ≡ range_with_len (b + 1) n)
first_number a b n rest e = (cc, cc)

pub keeps_first : (next : ℕ → ℕ) (x : ℕ × ℕ) (xs : List (ℕ × ℕ)) → Keeps next (x ∷ xs) → x.0 < no_bank → x.1 ≡ next x.0
keeps_first next x xs keeps lt =
    let is : entries_of x.0 (x ∷ xs) ≡ x ∷ entries_of x.0 xs =
    cond-true (x.0 == x.0) (x ∷ entries_of x.0 xs) (entries_of x.0 xs) (eq-eqb x.0 x.0 refl) in
    (first_number x.1 (next x.0) (length (entries_of x.0 xs)) (map (λ (e : ℕ × ℕ). e.1) (entries_of x.0 xs))
    (subst (λ (es : List (ℕ × ℕ)). map (λ (e : ℕ × ℕ). e.1) es ≡ range_with_len (next x.0) (length es))
    is (keeps x.0 lt))).0

pub keeps_rest : (next : ℕ → ℕ) (x : ℕ × ℕ) (xs : List (ℕ × ℕ)) → Keeps next (x ∷ xs) → Keeps (bump next x.0) xs
keeps_rest next x xs keeps bank lt = go (x.0 == bank) (keeps bank lt)
  where
    go : (b : Bool) → map (λ (e : ℕ × ℕ). e.1) (cond b (x ∷ entries_of bank xs) (entries_of bank xs))
        ≡ range_with_len (next bank) (length (cond b (x ∷ entries_of bank xs) (entries_of bank xs)))
        → map (λ (e : ℕ × ℕ). e.1) (entries_of bank xs) ≡ range_with_len (cond b (next bank + 1) (next bank))
        (length (entries_of bank xs))
    go true e = (first_number x.1 (next bank) (length (entries_of bank xs))
        (map (λ (e : ℕ × ℕ). e.1) (entries_of bank xs)) e).1
    go false e = e

pub keeps_more : (next : ℕ → ℕ) (x : ℕ × ℕ) (xs : List (ℕ × ℕ)) → (x.0 < no_bank → x.1 ≡ next x.0) →
    Keeps (bump next x.0) xs → Keeps next (x ∷ xs)
keeps_more next x xs first keeps bank lt = elim (cases_Bool (x.0 == bank)) [
  | inl e ↦ subst (λ b. Goal b) (sym e)
      (ap₂ (λ (a : ℕ) (rest : List ℕ). a ∷ rest) (first (subst (λ k. k < no_bank) (sym (eqb-true x.0 bank e)) lt)
      ∙ ap next (eqb-true x.0 bank e)) (subst (λ b. Rest b) e (keeps bank lt)))
  | inr e ↦ subst (λ b. Goal b) (sym e) (subst (λ b. Rest b) e (keeps bank lt))
]
  where
    Goal : Bool → Type 0
    Goal b = map (λ (e : ℕ × ℕ). e.1) (cond b (x ∷ entries_of bank xs) (entries_of bank xs))
        ≡ range_with_len (next bank) (length (cond b (x ∷ entries_of bank xs) (entries_of bank xs)))

    Rest : Bool → Type 0
    Rest b = map (λ (e : ℕ × ℕ). e.1) (entries_of bank xs) ≡ range_with_len (cond b (next bank + 1) (next bank))
        (length (entries_of bank xs))

pub runs_from_takes : (left : List (List (ℕ × ℕ))) (next : ℕ → ℕ) (order : List ℕ) (xs : List (ℕ × ℕ)) →
    Takes left order xs → Keeps next xs → Runs left next order
runs_from_takes left next [] [] takes keeps = takes
runs_from_takes left next [] (x ∷ xs) takes keeps = absurd takes
runs_from_takes left next (log ∷ order) [] takes keeps = absurd takes
runs_from_takes left next (log ∷ order) (x ∷ xs) takes keeps =
    let goes : Goes left next log = record { entry = x; first = takes.0; carries = keeps_first next x xs keeps } in
    (goes, runs_from_takes (after_next left log) (bump next x.0) order xs takes.1 (keeps_rest next x xs keeps))

pub takes_from_runs : (left : List (List (ℕ × ℕ))) (next : ℕ → ℕ) (order : List ℕ) → Runs left next order →
    (xs : List (ℕ × ℕ)) × Takes left order xs × Keeps next xs
takes_from_runs left next [] runs = ([], runs, λ bank lt. refl)
takes_from_runs left next (log ∷ order) (goes, runs) =
    let rest = takes_from_runs (after_next left log) (bump next goes.entry.0) order runs in
    (goes.entry ∷ rest.0, (goes.first, rest.1), keeps_more next goes.entry rest.0 goes.carries rest.2)

pub runs_from_order : (skeletons : List (List (ℕ × ℕ))) (order : List ℕ) → IsOrder skeletons order →
    Runs skeletons (λ _. 0) order
runs_from_order skeletons order is = runs_from_takes skeletons (λ _. 0) order is.entries is.taken is.kept

pub order_from_runs : (skeletons : List (List (ℕ × ℕ))) (order : List ℕ) → Runs skeletons (λ _. 0) order →
    IsOrder skeletons order
order_from_runs skeletons order runs =
    let is = takes_from_runs skeletons (λ _. 0) order runs in
    record { entries = is.0; taken = is.1; kept = is.2 }

pub least_order : (skeletons : List (List (ℕ × ℕ))) (order : List ℕ) → IsLeastRun skeletons (λ _. 0) order →
    IsLeastOrder skeletons order
least_order skeletons order is = record {
  is_order = order_from_runs skeletons order is.runs;
  least = λ other h. is.least other (runs_from_order skeletons other h);
}
