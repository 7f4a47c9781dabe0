-- What an order takes from the logs.
use Rattle.std.proofs.Common.{◌≡◌, ℕ, zero, suc, Bool, true, false, cond, ◌==◌, List, [], ◌∷◌, map, length, drop, set}
use Rattle.std.proofs.Common.{refl, sym, ap, ◌∙◌, subst, eq-eqb, eqb-true, inl, inr}
use mathlib.Core.Path.{ap₂}
use Rattle.std.proofs.lemmas.Bool.{cases_Bool, cond-true, cond-false, eqb-false}
use Rattle.std.proofs.lemmas.List.{get_or-set_other, map-set, drop-map, length-map}
use Rattle.std.proofs.Math.ListN.{get_or-map}
use Rattle.std.specs.List.{range_with_len, AllByRecursion}
use Rattle.lf_rules.specs.declared.event.Record.{Record}
use Rattle.lf_rules.specs.Run.{of_log, of_bank, NameTheirLogs, Interleaves}
use Rattle.lf_rules.specs.Ring.{entry_of}
use Rattle.lf_rules.specs.Order.{log_at, after_next, Takes, entries_of, OrdersInterleave, OrdersTakeOne}
use Rattle.lf_rules.specs.Order.{SkeletonsFollow, LogsFollow, EntriesKeepAlike}

-- ---- the logs after an element is taken

module _ {T : Type 0} where
  next_here : (logs : List (List T)) (log : ℕ) → log_at (after_next logs log) log ≡ drop 1 (log_at logs log)
  next_here [] log = refl
  next_here (xs ∷ logs) zero = refl
  next_here (xs ∷ logs) (suc log) = next_here logs log

  next_other : (logs : List (List T)) (log k : ℕ) → (log == k) ≡ false → log_at (after_next logs log) k ≡ log_at logs k
  next_other logs log k apart = get_or-set_other logs log k (drop 1 (log_at logs log)) []
      (λ same. eqb-false log k apart (sym same))

  head_is : {x y : T} {xs ys : List T} → ◌≡◌ {A = List T} (x ∷ xs) (y ∷ ys) → x ≡ y
  head_is e = cc

  takes_one : (order : List ℕ) (logs : List (List T)) (a b : List T) → Takes logs order a → Takes logs order b → a ≡ b
  takes_one [] logs [] [] first second = refl
  takes_one [] logs [] (y ∷ b) first second = absurd second
  takes_one [] logs (x ∷ a) b first second = absurd first
  takes_one (log ∷ order) logs [] b first second = absurd first
  takes_one (log ∷ order) logs (x ∷ a) [] first second = absurd second
  takes_one (log ∷ order) logs (x ∷ a) (y ∷ b) first second =
      ap₂ (λ z zs. z ∷ zs) (head_is (sym first.0 ∙ second.0))
      (takes_one order (after_next logs log) a b first.1 second.1)

pub orders_take_one : OrdersTakeOne
orders_take_one logs order a b = takes_one order logs a b

-- ---- what an order takes is an interleaving

first_named : (rs : List Record) (log : ℕ) (r : Record) (rest : List Record) → rs ≡ r ∷ rest →
    AllByRecursion (λ q. q.log ≡ log) rs → r.log ≡ log
first_named rs log r rest e named = (subst (AllByRecursion (λ (q : Record). q.log ≡ log)) e named).0

rest_named : (rs : List Record) (log : ℕ) → AllByRecursion (λ q. q.log ≡ log) rs →
    AllByRecursion (λ q. q.log ≡ log) (drop 1 rs)
rest_named [] log named = tt
rest_named (r ∷ rs) log named = named.1

next_named : (logs : List (List Record)) (log : ℕ) → NameTheirLogs logs → NameTheirLogs (after_next logs log)
next_named logs log named k =
    (elim (cases_Bool (log == k)) [
      | inl e ↦ subst (λ j. AllByRecursion (λ q. q.log ≡ j) (log_at (after_next logs log) j)) (eqb-true log k e)
          (subst (AllByRecursion (λ (q : Record). q.log ≡ log)) (sym (next_here logs log))
          (rest_named (log_at logs log) log (named log)))
      | inr e ↦ subst (AllByRecursion (λ (q : Record). q.log ≡ k)) (sym (next_other logs log k e)) (named k)
    ])

of_log_here : (r : Record) (rs : List Record) → of_log r.log (r ∷ rs) ≡ r ∷ of_log r.log rs
of_log_here r rs = cond-true (r.log == r.log) (r ∷ of_log r.log rs) (of_log r.log rs) (eq-eqb r.log r.log refl)

of_log_other : (log : ℕ) (r : Record) (rs : List Record) → (r.log == log) ≡ false → of_log log (r ∷ rs) ≡ of_log log rs
of_log_other log r rs apart = cond-false (r.log == log) (r ∷ of_log log rs) (of_log log rs) apart

-- one more record in front
longer : (logs : List (List Record)) (r : Record) (rs : List Record) →
    log_at logs r.log ≡ r ∷ drop 1 (log_at logs r.log) → Interleaves (after_next logs r.log) rs →
    Interleaves logs (r ∷ rs)
longer logs r rs first is = record {
  each = λ log. (elim (cases_Bool (r.log == log)) [
    | inl e ↦ subst (λ k. of_log k (r ∷ rs) ≡ log_at logs k) (eqb-true r.log log e)
        (of_log_here r rs ∙ ap (λ (xs : List Record). r ∷ xs) (is.each r.log ∙ next_here logs r.log) ∙ sym first)
    | inr e ↦ of_log_other log r rs e ∙ is.each log ∙ next_other logs r.log log e
  ]);
}

-- and one less
first_of_log : (logs : List (List Record)) (r : Record) (rs : List Record) → Interleaves logs (r ∷ rs) →
    log_at logs r.log ≡ r ∷ of_log r.log rs
first_of_log logs r rs is = sym (is.each r.log) ∙ of_log_here r rs

shorter : (logs : List (List Record)) (r : Record) (rs : List Record) → Interleaves logs (r ∷ rs) →
    Interleaves (after_next logs r.log) rs
shorter logs r rs is = record {
  each = λ log. (elim (cases_Bool (r.log == log)) [
    | inl e ↦ subst (λ k. of_log k rs ≡ log_at (after_next logs r.log) k) (eqb-true r.log log e)
        (sym (ap (drop 1) (first_of_log logs r rs is)) ∙ sym (next_here logs r.log))
    | inr e ↦ sym (of_log_other log r rs e) ∙ is.each log ∙ sym (next_other logs r.log log e)
  ]);
}

taken_interleaves : (order : List ℕ) (logs : List (List Record)) (rs : List Record) → NameTheirLogs logs →
    Takes logs order rs → Interleaves logs rs × (map (λ (r : Record). r.log) rs ≡ order)
taken_interleaves [] logs [] named takes = (record { each = λ log. sym (takes log) }, refl)
taken_interleaves [] logs (r ∷ rs) named takes = absurd takes
taken_interleaves (log ∷ order) logs [] named takes = absurd takes
taken_interleaves (log ∷ order) logs (r ∷ rs) named takes =
    let is : r.log ≡ log = first_named (log_at logs log) log r (drop 1 (log_at logs log)) takes.0 (named log) in
    let rest = taken_interleaves order (after_next logs log) rs (next_named logs log named) takes.1 in (
      longer logs r rs (subst (λ k. log_at logs k ≡ r ∷ drop 1 (log_at logs k)) (sym is) takes.0)
          (subst (λ k. Interleaves (after_next logs k) rs) (sym is) rest.0),
      ap₂ (λ k ks. k ∷ ks) is rest.1,
    )

interleaving_taken : (rs : List Record) (logs : List (List Record)) → Interleaves logs rs →
    Takes logs (map (λ (r : Record). r.log) rs) rs
interleaving_taken [] logs is = λ log. sym (is.each log)
interleaving_taken (r ∷ rs) logs is =
    let first = first_of_log logs r rs is in (
      first ∙ ap (λ (xs : List Record). r ∷ xs) (sym (ap (drop 1) first)),
      interleaving_taken rs (after_next logs r.log) (shorter logs r rs is),
    )

pub orders_interleave : OrdersInterleave
orders_interleave logs order rs named = (
  taken_interleaves order logs rs named,
  λ both. subst (λ ks. Takes logs ks rs) both.1 (interleaving_taken rs logs both.0),
)

-- ---- entries for records

module _ {X Y : Type 0} (f : X → Y) where
  mapped_at : (logs : List (List X)) (log : ℕ) → log_at (map (map f) logs) log ≡ map f (log_at logs log)
  mapped_at logs log = get_or-map (map f) logs log []

  mapped_next : (logs : List (List X)) (log : ℕ) → after_next (map (map f) logs) log ≡ map (map f) (after_next logs log)
  mapped_next logs log =
      ap (λ ys. set (map (map f) logs) log ys) (ap (drop 1) (mapped_at logs log) ∙ drop-map f 1 (log_at logs log))
      ∙ sym (map-set (map f) logs log (drop 1 (log_at logs log)))

  takes_mapped : (order : List ℕ) (logs : List (List X)) (xs : List X) → Takes logs order xs →
      Takes (map (map f) logs) order (map f xs)
  takes_mapped [] logs [] takes = λ log. mapped_at logs log ∙ ap (map f) (takes log)
  takes_mapped [] logs (x ∷ xs) takes = absurd takes
  takes_mapped (log ∷ order) logs [] takes = absurd takes
  takes_mapped (log ∷ order) logs (x ∷ xs) takes =
      let first : log_at (map (map f) logs) log ≡ f x ∷ map f (drop 1 (log_at logs log)) =
      mapped_at logs log ∙ ap (map f) takes.0 in (
        first ∙ ap (λ ys. f x ∷ ys) (sym (ap (drop 1) first)),
        subst (λ l. Takes l order (map f xs)) (sym (mapped_next logs log))
            (takes_mapped order (after_next logs log) xs takes.1),
      )

  nil_if_mapped : (xs : List X) → map f xs ≡ [] → xs ≡ []
  nil_if_mapped [] e = refl
  nil_if_mapped (x ∷ xs) e = cc

  cons_if_mapped : (xs : List X) (y : Y) (ys : List Y) → map f xs ≡ y ∷ ys → (x : X) × (xs ≡ x ∷ drop 1 xs) × (f x ≡ y)
  cons_if_mapped [] y ys e = cc
  cons_if_mapped (x ∷ xs) y ys e = (x, refl, head_is e)

  unmapped : (order : List ℕ) (logs : List (List X)) (ys : List Y) → Takes (map (map f) logs) order ys →
      (xs : List X) × Takes logs order xs × (map f xs ≡ ys)
  unmapped [] logs [] takes = ([], λ log. nil_if_mapped (log_at logs log) (sym (mapped_at logs log) ∙ takes log), refl)
  unmapped [] logs (y ∷ ys) takes = absurd takes
  unmapped (log ∷ order) logs [] takes = absurd takes
  unmapped (log ∷ order) logs (y ∷ ys) takes =
      let first = cons_if_mapped (log_at logs log) y _ (sym (mapped_at logs log) ∙ takes.0) in
      let rest = unmapped order (after_next logs log) ys (subst (λ l. Takes l order ys) (mapped_next logs log)
      takes.1) in
      (first.0 ∷ rest.0, (first.1, rest.1), ap₂ (λ z zs. z ∷ zs) first.2 rest.2)

pub skeletons_follow : SkeletonsFollow
skeletons_follow logs order rs = takes_mapped entry_of order logs rs

pub logs_follow : LogsFollow
logs_follow logs order entries = unmapped entry_of order logs entries

-- ---- numbers

bank_entries : (bank : ℕ) (rs : List Record) → entries_of bank (map entry_of rs) ≡ map entry_of (of_bank bank rs)
bank_entries bank [] = refl
bank_entries bank (r ∷ rs) = go (r.bank == bank) (bank_entries bank rs)
  where
    go : (b : Bool) → entries_of bank (map entry_of rs) ≡ map entry_of (of_bank bank rs)
        → cond b (entry_of r ∷ entries_of bank (map entry_of rs)) (entries_of bank (map entry_of rs))
        ≡ map entry_of (cond b (r ∷ of_bank bank rs) (of_bank bank rs))
    go true ih = ap (λ es. entry_of r ∷ es) ih
    go false ih = ih

entry_numbers : (rs : List Record) → map (λ (e : ℕ × ℕ). e.1) (map entry_of rs) ≡ map (λ (r : Record). r.number) rs
entry_numbers [] = refl
entry_numbers (r ∷ rs) = ap (λ ns. r.number ∷ ns) (entry_numbers rs)

abbrev RisesFromZero : List (ℕ × ℕ) → Type 0
RisesFromZero es = map (λ e. e.1) es ≡ range_with_len 0 (length es)

pub entries_keep_alike : EntriesKeepAlike
entries_keep_alike rs = (
  λ keeps bank named. subst RisesFromZero (sym (bank_entries bank rs))
      (entry_numbers (of_bank bank rs) ∙ keeps bank named ∙ ap (range_with_len 0)
      (sym (length-map (of_bank bank rs) entry_of))),
  λ keeps bank named. sym (entry_numbers (of_bank bank rs))
      ∙ subst RisesFromZero (bank_entries bank rs) (keeps bank named)
      ∙ ap (range_with_len 0) (length-map (of_bank bank rs) entry_of),
)
