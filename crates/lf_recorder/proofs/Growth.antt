-- A list of records that grows by one.
use Rattle.std.proofs.Common.{◌≡◌, ◌≢◌, ℕ, zero, suc, ◌+◌, ◌*◌, ◌<◌, ◌≤◌, Bool, true, false, cond, not, List, [], ◌∷◌}
use Rattle.std.proofs.Common.{◌++◌, length, Some, refl, sym, ap, ◌∙◌, subst, ⊎_elim, arith, eq-eqb, ne_eqb, suc-mul}
use mathlib.Core.Logic.{dite}
use native.Mathlib.Decide.{ℕ_discrete}
use Rattle.std.specs.Prelude.{◌==◌, slice_get, filter, All}
use Rattle.std.proofs.lemmas.List.{append-nil}
use Rattle.std.proofs.lemmas.Option.{slice_get_within}
use Rattle.std.proofs.lemmas.List.Elements.{filter-append, All-filter, All-nil, All-cons}
use Rattle.std.proofs.lemmas.List.Filters.{length-filter_both}
use Rattle.lf_rules.specs.declared.event.Record.{Record}
use Rattle.lf_rules.specs.Address.{no_bank}
use Rattle.lf_rules.specs.Run.{of_log, of_bank}
use Rattle.lf_recorder.specs.Rule.{CountsUp}
use Rattle.lf_recorder.proofs.Places.{slice_get_snoc, filter_no_longer, filter_out}

-- one more element, where it passes and where it does not
module _ {A : Type 0} (p : A → Bool) where
  pub filter_snoc_in : (xs : List A) (x : A) → p x ≡ true → filter p (xs ++ x ∷ []) ≡ filter p xs ++ x ∷ []
  filter_snoc_in xs x e = filter-append p xs (x ∷ []) ∙ ap (λ b. filter p xs ++ cond b (x ∷ []) []) e

  pub filter_snoc_out : (xs : List A) (x : A) → p x ≡ false → filter p (xs ++ x ∷ []) ≡ filter p xs
  filter_snoc_out xs x e = filter-append p xs (x ∷ []) ∙ (ap (λ b. filter p xs ++ cond b (x ∷ []) []) e
      ∙ append-nil (filter p xs))

pub of_log_own : (all : List Record) (r : Record) (log : ℕ) → r.log ≡ log →
    of_log log (all ++ r ∷ []) ≡ of_log log all ++ r ∷ []
of_log_own all r log e = filter_snoc_in (λ (x : Record). x.log == log) all r (eq-eqb r.log log e)

pub of_log_other : (all : List Record) (r : Record) (log : ℕ) → r.log ≢ log →
    of_log log (all ++ r ∷ []) ≡ of_log log all
of_log_other all r log e = filter_snoc_out (λ (x : Record). x.log == log) all r (ne_eqb r.log log e)

pub of_bank_own : (all : List Record) (r : Record) (bank : ℕ) → r.bank ≡ bank →
    of_bank bank (all ++ r ∷ []) ≡ of_bank bank all ++ r ∷ []
of_bank_own all r bank e = filter_snoc_in (λ (x : Record). x.bank == bank) all r (eq-eqb r.bank bank e)

pub of_bank_other : (all : List Record) (r : Record) (bank : ℕ) → r.bank ≢ bank →
    of_bank bank (all ++ r ∷ []) ≡ of_bank bank all
of_bank_other all r bank e = filter_snoc_out (λ (x : Record). x.bank == bank) all r (ne_eqb r.bank bank e)

-- no more records than the logs have room for
pub size_bound : (logs most : ℕ) (all : List Record) → ((log : ℕ) → length (of_log log all) ≤ most) →
    ((log : ℕ) → logs ≤ log → length (of_log log all) ≡ 0) → length all ≤ logs * most
size_bound zero most [] short none = omega arith
size_bound zero most (r ∷ rs) short none =
    let h : length (cond (r.log == r.log) (r ∷ of_log r.log rs) (of_log r.log rs)) ≡ 0 = none r.log (omega arith) in
    let k : length (r ∷ of_log r.log rs) ≡ 0 = subst (λ b. length (cond b (r ∷ of_log r.log rs) (of_log r.log rs))
    ≡ 0) (eq-eqb r.log r.log refl) h in
    absurd (omega arith)
size_bound (suc n) most all short none =
    let p : Record → Bool = λ r. r.log == n in
    let rest = filter (λ r. not (p r)) all in
    let both : length (filter p all) + length rest ≡ length all =
    length-filter_both p (λ r. not (p r)) (λ _. refl) all in
    let one : length (filter p all) ≤ most = short n in
    let others : length rest ≤ n * most = size_bound n most rest short' none' in
    omega (arith, suc-mul n most)
  where
    short' : (log : ℕ) → length (of_log log (filter (λ (r : Record). not (r.log == n)) all)) ≤ most
    short' log = let a = filter_no_longer (λ (r : Record). r.log == log) (λ (r : Record). not (r.log == n)) all in
        let b = short log in omega arith

    none' : (log : ℕ) → n ≤ log → length (of_log log (filter (λ (r : Record). not (r.log == n)) all)) ≡ 0
    none' log le = dite (ℕ_discrete n log)
        (λ e. subst (λ k. length (of_log k (filter (λ (r : Record). not (r.log == n)) all)) ≡ 0) e
        (filter_out (λ (r : Record). r.log == n) all))
        (λ ne. let a = filter_no_longer (λ (r : Record). r.log == log) (λ (r : Record). not (r.log == n)) all in
        let b = none log (omega arith) in omega arith)

-- a record more keeps the numbers, where it carries its bank's next one
pub keeps_more : (all : List Record) (r : Record) → CountsUp all →
    (r.bank < no_bank → r.number ≡ length (of_bank r.bank all)) → CountsUp (all ++ r ∷ [])
keeps_more all r keeps next bank k x lt at = dite (ℕ_discrete r.bank bank)
    (λ e. ⊎_elim
    (λ (was : slice_get (of_bank bank all) k ≡ Some x). keeps bank k x lt was)
    (λ (new : (k ≡ length (of_bank bank all)) × (r ≡ x)). ap (λ (y : Record). y.number) (sym new.1)
    ∙ (next (subst (λ b. b < no_bank) (sym e) lt) ∙ (ap (λ b. length (of_bank b all)) e ∙ sym new.0)))
    (slice_get_snoc (of_bank bank all) r x k (subst (λ l. slice_get l k ≡ Some x) (of_bank_own all r bank e) at)))
    (λ ne. keeps bank k x lt (subst (λ l. slice_get l k ≡ Some x) (of_bank_other all r bank ne) at))

-- each record of a bank carries a number below n, where that bank's list says so
pub all_below : (all : List Record) (bank n : ℕ) → ((k : ℕ) (r : Record) → slice_get (of_bank bank all) k ≡ Some r →
    r.number < n) → All (λ (r : Record). r.bank ≡ bank → r.number < n) all
all_below [] bank n below = All-nil (λ (r : Record). r.bank ≡ bank → r.number < n)
all_below (r ∷ rs) bank n below = dite (ℕ_discrete r.bank bank)
    (λ e. let is : of_bank bank (r ∷ rs) ≡ r ∷ of_bank bank rs =
    ap (λ b. cond b (r ∷ of_bank bank rs) (of_bank bank rs)) (eq-eqb r.bank bank e) in
    All-cons (λ (x : Record). x.bank ≡ bank → x.number < n) r rs
    (λ _. below 0 r (ap (λ (l : List Record). slice_get l 0) is))
    (all_below rs bank n (λ k x at. below (suc k) x (ap (λ (l : List Record). slice_get l (suc k)) is ∙ at))))
    (λ ne. let is : of_bank bank (r ∷ rs) ≡ of_bank bank rs =
    ap (λ b. cond b (r ∷ of_bank bank rs) (of_bank bank rs)) (ne_eqb r.bank bank ne) in
    All-cons (λ (x : Record). x.bank ≡ bank → x.number < n) r rs
    (λ e. absurd (ne e))
    (all_below rs bank n (λ k x at. below k x (ap (λ (l : List Record). slice_get l k) is ∙ at))))

-- so do those of one log
pub log_below : (all : List Record) (log bank : ℕ) → bank < no_bank → CountsUp all →
    All (λ (r : Record). r.bank ≡ bank → r.number < length (of_bank bank all)) (of_log log all)
log_below all log bank lt keeps =
    All-filter (λ (r : Record). r.log == log) (λ (r : Record). r.bank ≡ bank → r.number < length (of_bank bank all)) all
    (all_below all bank (length (of_bank bank all)) (λ k r at. let n = keeps bank k r lt at in let within =
    slice_get_within (of_bank bank all) k r at in omega arith))
