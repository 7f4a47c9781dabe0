-- What an order takes from records, and from those and more.
use Rattle.std.proofs.Common.{◌≡◌, ℕ, true, false, ◌==◌, List, [], ◌∷◌, ◌++◌, length, drop, Option, Some, None}
use Rattle.std.proofs.Common.{refl, sym, ap, ◌∙◌, subst, eqb-true, inl, inr, ◌⊎◌}
use Rattle.std.specs.Global.{Vec}
use Rattle.std.proofs.lemmas.Bool.{cases_Bool, cond-true, cond-false}
use Rattle.std.proofs.lemmas.List.Elements.{filter-append}
use Rattle.lf_rules.specs.declared.event.Record.{Record}
use Rattle.lf_rules.specs.Run.{of_log}
use Rattle.wave_order.specs.Ordered.{without_next, first_before, in_order, others_or_all, left_by, drawn_of}

-- ---- the next record of a log

pub of_log-append : (log : ℕ) (xs ys : List Record) → of_log log (xs ++ ys) ≡ of_log log xs ++ of_log log ys
of_log-append log xs ys = filter-append (λ r. r.log == log) xs ys

here : (log : ℕ) (r : Record) (rs : List Record) → (r.log == log) ≡ true → of_log log (r ∷ rs) ≡ r ∷ of_log log rs
here log r rs is = cond-true (r.log == log) (r ∷ of_log log rs) (of_log log rs) is

elsewhere : (log : ℕ) (r : Record) (rs : List Record) → (r.log == log) ≡ false → of_log log (r ∷ rs) ≡ of_log log rs
elsewhere log r rs is = cond-false (r.log == log) (r ∷ of_log log rs) (of_log log rs) is

gone : (log : ℕ) (r : Record) (rs : List Record) → (r.log == log) ≡ true → without_next log (r ∷ rs) ≡ rs
gone log r rs is = cond-true (r.log == log) rs (r ∷ without_next log rs) is

kept : (log : ℕ) (r : Record) (rs : List Record) → (r.log == log) ≡ false →
    without_next log (r ∷ rs) ≡ r ∷ without_next log rs
kept log r rs is = cond-false (r.log == log) rs (r ∷ without_next log rs) is

-- the log itself is one shorter
pub of_log-without : (log : ℕ) (rs : List Record) → of_log log (without_next log rs) ≡ drop 1 (of_log log rs)
of_log-without log [] = refl
of_log-without log (r ∷ rs) =
    elim (cases_Bool (r.log == log)) [
      | inl is ↦ ap (of_log log) (gone log r rs is) ∙ sym (ap (drop 1) (here log r rs is))
      | inr is ↦ ap (of_log log) (kept log r rs is) ∙ elsewhere log r (without_next log rs) is
          ∙ of_log-without log rs ∙ sym (ap (drop 1) (elsewhere log r rs is))
    ]

-- the others are as they were
pub of_log-without_other : (log k : ℕ) (rs : List Record) → (log == k) ≡ false →
    of_log k (without_next log rs) ≡ of_log k rs
of_log-without_other log k [] apart = refl
of_log-without_other log k (r ∷ rs) apart =
    elim (cases_Bool (r.log == log)) [
      | inl is ↦
          let other : (r.log == k) ≡ false = subst (λ (l : ℕ). (l == k) ≡ false) (sym (eqb-true r.log log is)) apart in
          ap (of_log k) (gone log r rs is) ∙ sym (elsewhere k r rs other)
      | inr is ↦
          let same = of_log-without_other log k rs apart in
          ap (of_log k) (kept log r rs is) ∙
          elim (cases_Bool (r.log == k)) [
            | inl at ↦ here k r (without_next log rs) at ∙ ap (λ (l : List Record). r ∷ l) same ∙ sym (here k r rs at)
            | inr at ↦ elsewhere k r (without_next log rs) at ∙ same ∙ sym (elsewhere k r rs at)
          ]
    ]

-- where a log has no record, nothing goes
pub without_none : (log : ℕ) (rs : List Record) → of_log log rs ≡ [] → without_next log rs ≡ rs
without_none log [] none = refl
without_none log (r ∷ rs) none =
    elim (cases_Bool (r.log == log)) [
      | inl is ↦ let bad : r ∷ of_log log rs ≡ [] = sym (here log r rs is) ∙ none in cc
      | inr is ↦ kept log r rs is
          ∙ ap (λ (l : List Record). r ∷ l) (without_none log rs (sym (elsewhere log r rs is) ∙ none))
    ]

-- where it has one, records behind it stay
without-append : (log : ℕ) (xs ys : List Record) (x : Record) (rest : List Record) → of_log log xs ≡ x ∷ rest →
    without_next log (xs ++ ys) ≡ without_next log xs ++ ys
without-append log [] ys x rest some = cc
without-append log (r ∷ rs) ys x rest some =
    elim (cases_Bool (r.log == log)) [
      | inl is ↦ gone log r (rs ++ ys) is ∙ ap (λ (l : List Record). l ++ ys) (sym (gone log r rs is))
      | inr is ↦ kept log r (rs ++ ys) is
          ∙ ap (λ (l : List Record). r ∷ l) (without-append log rs ys x rest (sym (elsewhere log r rs is) ∙ some))
          ∙ ap (λ (l : List Record). l ++ ys) (sym (kept log r rs is))
    ]

-- ---- more records

pub either : (xs : List Record) → (xs ≡ []) ⊎ ((x : Record) × (rest : List Record) × (xs ≡ x ∷ rest))
either [] = inl refl
either (x ∷ rest) = inr (x, rest, refl)

-- what is due of the rest of the order, once the records before are gone
abbrev rest_of : List ℕ → List Record → List ℕ
rest_of order rs = drop (length (in_order order rs)) order

-- how an order begins
pub stops : (log : ℕ) (order : List ℕ) (rs : List Record) → of_log log rs ≡ [] → in_order (log ∷ order) rs ≡ []
stops log order rs none = ap (λ (l : List Record). first_before l (in_order order (without_next log rs))) none

pub stays : (log : ℕ) (order : List ℕ) (rs : List Record) → of_log log rs ≡ [] → left_by (log ∷ order) rs ≡ rs
stays log order rs none = ap (λ (l : List Record). others_or_all l (left_by order (without_next log rs)) rs) none

pub begins : (log : ℕ) (order : List ℕ) (rs : List Record) (x : Record) (rest : List Record) → of_log log rs ≡ x ∷ rest
    → in_order (log ∷ order) rs ≡ x ∷ in_order order (without_next log rs)
begins log order rs x rest some =
    ap (λ (l : List Record). first_before l (in_order order (without_next log rs))) some

pub leaves : (log : ℕ) (order : List ℕ) (rs : List Record) (x : Record) (rest : List Record) → of_log log rs ≡ x ∷ rest
    → left_by (log ∷ order) rs ≡ left_by order (without_next log rs)
leaves log order rs x rest some =
    ap (λ (l : List Record). others_or_all l (left_by order (without_next log rs)) rs) some

pub in_order-append : (order : List ℕ) (xs ys : List Record) →
    in_order order (xs ++ ys) ≡ in_order order xs ++ in_order (rest_of order xs) (left_by order xs ++ ys)
in_order-append [] xs ys = refl
in_order-append (log ∷ order) xs ys =
    elim (either (of_log log xs)) [
      | inl none ↦ rw (stops log order xs none, stays log order xs none) refl
      | inr some ↦
          let more : of_log log (xs ++ ys) ≡ some.0 ∷ (some.1 ++ of_log log ys) =
          of_log-append log xs ys ∙ ap (λ (l : List Record). l ++ of_log log ys) some.2 in
          begins log order (xs ++ ys) some.0 (some.1 ++ of_log log ys) more
          ∙ ap (λ (l : List Record). some.0 ∷ in_order order l) (without-append log xs ys some.0 some.1 some.2)
          ∙ ap (λ (l : List Record). some.0 ∷ l) (in_order-append order (without_next log xs) ys)
          ∙ rw (begins log order xs some.0 some.1 some.2, leaves log order xs some.0 some.1 some.2) refl
    ]

pub left_by-append : (order : List ℕ) (xs ys : List Record) →
    left_by order (xs ++ ys) ≡ left_by (rest_of order xs) (left_by order xs ++ ys)
left_by-append [] xs ys = refl
left_by-append (log ∷ order) xs ys =
    elim (either (of_log log xs)) [
      | inl none ↦ rw (stops log order xs none, stays log order xs none) refl
      | inr some ↦
          let more : of_log log (xs ++ ys) ≡ some.0 ∷ (some.1 ++ of_log log ys) =
          of_log-append log xs ys ∙ ap (λ (l : List Record). l ++ of_log log ys) some.2 in
          leaves log order (xs ++ ys) some.0 (some.1 ++ of_log log ys) more
          ∙ ap (left_by order) (without-append log xs ys some.0 some.1 some.2)
          ∙ left_by-append order (without_next log xs) ys
          ∙ rw (begins log order xs some.0 some.1 some.2, leaves log order xs some.0 some.1 some.2) refl
    ]

-- ---- no records

-- with no records nothing is drawn
none_in_order : (order : List ℕ) → in_order order [] ≡ []
none_in_order [] = refl
none_in_order (log ∷ order) = refl

pub none_drawn : (order : Option (Vec ℕ)) (records : List Record) → records ≡ [] → drawn_of order records ≡ []
none_drawn None records none = none
none_drawn (Some order) records none = ap (in_order order.items) none ∙ none_in_order order.items
