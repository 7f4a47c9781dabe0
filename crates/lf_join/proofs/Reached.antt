-- What the logs have reached, entry by entry.
use Rattle.std.proofs.Common.{◌≡◌, ◌≢◌, ℕ, zero, suc, ◌+◌, ◌<◌, inl, inr, List, [], ◌∷◌, ◌++◌, length, drop}
use Rattle.std.proofs.Common.{set, slice_index, replicate, refl, sym, ap, ◌∙◌, subst, arith}
use Rattle.std.proofs.lemmas.Bool.{cases_eq}
use Rattle.std.proofs.lemmas.List.{get_or-set_same, get_or-set_other, set-get_or, set_comm}
use Rattle.std.proofs.lemmas.List.{drop-drop, drop-append-le, length-append, length-set}
use Rattle.lf_rules.specs.Address.{no_bank}
use Rattle.lf_rules.specs.Order.{log_at, after_next, Takes, IsOrder}
use Rattle.lf_join.specs.Join.{TakesUpTo, next_number}
use Rattle.lf_join.specs.Heads.{IsAt}
use Rattle.lf_join.specs.Progress.{Reached, HasReached, with_entry, EntriesStay}
use Rattle.lf_join.proofs.Orders.{after_same, after_other, bump, bump_same, bump_other}
use Rattle.lf_join.proofs.Merge.{taken_more, kept_more, next_more, zeros}

set_set : {T : Type 0} (xs : List T) (i : ℕ) (a b : T) → set (set xs i a) i b ≡ set xs i b
set_set [] i a b = refl
set_set (x ∷ xs) zero a b = refl
set_set (x ∷ xs) (suc i) a b = ap (λ (ys : List _). x ∷ ys) (set_set xs i a b)

-- ---- what is left of a log

-- so many entries of the log have gone
pub record LogGone (log : List (ℕ × ℕ)) (left : List (ℕ × ℕ)) : Type 0 where
  pub count : ℕ
  pub whole : count + length left ≡ length log
  pub behind : left ≡ drop count log

pub log_gone : (logs : List (List (ℕ × ℕ))) (order : List ℕ) (gone : List (ℕ × ℕ)) (left : List (List (ℕ × ℕ)))
    (log : ℕ) → TakesUpTo logs order gone left → LogGone (log_at logs log) (log_at left log)
log_gone logs [] [] left log taken = record {
  count = 0;
  whole = let e = ap (λ (ls : List (List (ℕ × ℕ))). length (log_at ls log)) taken in omega (arith, e);
  behind = sym (ap (λ (ls : List (List (ℕ × ℕ))). log_at ls log) taken);
}
log_gone logs [] (x ∷ gone) left log taken = absurd taken
log_gone logs (m ∷ order) [] left log taken = absurd taken
log_gone logs (m ∷ order) (x ∷ gone) left log taken =
    let rest = log_gone (after_next logs m) order gone left log taken.1 in
    elim (cases_eq log m) [
      | inl same ↦
          let here : log_at (after_next logs m) log ≡ drop 1 (log_at logs log) =
          subst (λ k. log_at (after_next logs m) k ≡ drop 1 (log_at logs k)) (sym same) (after_same logs m) in
          let first : log_at logs log ≡ x ∷ drop 1 (log_at logs log) =
          subst (λ k. log_at logs k ≡ x ∷ drop 1 (log_at logs k)) (sym same) taken.0 in
          let len = ap length first in
          let one = ap length here in
          record {
            count = 1 + rest.count;
            whole = omega (arith, rest.whole, one, len);
            behind = rest.behind ∙ ap (drop rest.count) here ∙ drop-drop rest.count 1 (log_at logs log);
          }
      | inr apart ↦ subst (λ (xs : List (ℕ × ℕ)). LogGone xs (log_at left log)) (after_other logs m log apart) rest
    ]

pub length_left : {T : Type 0} (logs : List (List T)) (order : List ℕ) (gone : List T) (left : List (List T)) →
    TakesUpTo logs order gone left → length left ≡ length logs
length_left logs [] [] left taken = sym (ap length taken)
length_left logs [] (x ∷ gone) left taken = absurd taken
length_left logs (m ∷ order) [] left taken = absurd taken
length_left logs (m ∷ order) (x ∷ gone) left taken =
    length_left (after_next logs m) order gone left taken.1 ∙ length-set logs m (drop 1 (log_at logs m))

pub takes_all : {T : Type 0} (logs : List (List T)) (order : List ℕ) (gone : List T) (left : List (List T)) →
    TakesUpTo logs order gone left → ((log : ℕ) → log_at left log ≡ []) → Takes logs order gone
takes_all logs [] [] left taken none = λ log. ap (λ ls. log_at ls log) taken ∙ none log
takes_all logs [] (x ∷ gone) left taken none = absurd taken
takes_all logs (m ∷ order) [] left taken none = absurd taken
takes_all logs (m ∷ order) (x ∷ gone) left taken none =
    (taken.0, takes_all (after_next logs m) order gone left taken.1 none)

-- ---- what the logs have reached

module _ (skeletons : List (List (ℕ × ℕ))) (reached : Reached) (left : List (List (ℕ × ℕ)))
    (h : HasReached skeletons reached left) where
  pub left_len : length left ≡ length skeletons
  left_len = length_left skeletons h.has_gone.order h.gone left h.has_gone.taken

  pub left_behind : (log : ℕ) → log_at left log ≡ drop (slice_index reached.places log) (log_at skeletons log)
  left_behind log =
      let rest = log_gone skeletons h.has_gone.order h.gone left log h.has_gone.taken in
      let count : rest.count ≡ slice_index reached.places log = omega (arith, rest.whole, h.counted log) in
      rest.behind ∙ ap (λ n. drop n (log_at skeletons log)) count

  pub is_at : IsAt skeletons h.has_gone.order reached.places reached.next
  is_at = record {
    gone = h.gone;
    left = left;
    taken = h.has_gone.taken;
    kept = h.has_gone.kept;
    placed = left_behind;
    counted = h.numbered;
  }

pub all_gone_order : (skeletons : List (List (ℕ × ℕ))) (order places next : List ℕ) →
    (at : IsAt skeletons order places next) → ((log : ℕ) → log_at at.left log ≡ []) → IsOrder skeletons order
all_gone_order skeletons order places next at none = record {
  entries = at.gone;
  taken = takes_all skeletons order at.gone at.left at.taken none;
  kept = at.kept;
}

-- ---- at first

pub reached_at_start : (count : ℕ) → HasReached (replicate count [])
    (record { places = replicate 32 0; next = replicate 256 0 }) (replicate count [])
reached_at_start count = record {
  gone = [];
  has_gone = record { order = []; taken = refl; kept = λ bank lt. refl };
  counted = λ log. let none = zeros 32 log in omega (arith, none);
  numbered = λ bank lt. zeros 256 bank;
}

-- ---- one entry more

module _ {T : Type 0} where
  -- the logs with one more element at the end of this one
  abbrev with_last : List (List T) → ℕ → T → List (List T)
  with_last logs log x = set logs log (log_at logs log ++ x ∷ [])

  last_same : (logs : List (List T)) (log : ℕ) (x : T) → log < length logs →
      log_at (with_last logs log x) log ≡ log_at logs log ++ x ∷ []
  last_same logs log x within = get_or-set_same logs log (log_at logs log ++ x ∷ []) [] within

  last_other : (logs : List (List T)) (log other : ℕ) (x : T) → other ≢ log →
      log_at (with_last logs log x) other ≡ log_at logs other
  last_other logs log other x apart = get_or-set_other logs log other (log_at logs log ++ x ∷ []) [] apart

  drop_one : (xs : List T) (y x : T) → xs ≡ y ∷ drop 1 xs → drop 1 (xs ++ x ∷ []) ≡ drop 1 xs ++ x ∷ []
  drop_one xs y x first = let len = ap length first in drop-append-le 1 xs (x ∷ []) (omega (arith, len))

  -- It does not matter which comes first.
  last_after : (logs : List (List T)) (m log : ℕ) (y x : T) → log < length logs →
      log_at logs m ≡ y ∷ drop 1 (log_at logs m)
      → after_next (with_last logs log x) m ≡ with_last (after_next logs m) log x
  last_after logs m log y x within first = elim (cases_eq m log) [
    | inl same ↦ subst (λ k. after_next (with_last logs log x) k ≡ with_last (after_next logs k) log x) (sym same)
        (ap (λ (xs : List T). set (with_last logs log x) log (drop 1 xs)) (last_same logs log x within)
        ∙ set_set logs log (log_at logs log ++ x ∷ []) (drop 1 (log_at logs log ++ x ∷ []))
        ∙ ap (set logs log) (drop_one (log_at logs log) y x
        (subst (λ k. log_at logs k ≡ y ∷ drop 1 (log_at logs k)) same first))
        ∙ sym (ap (λ (xs : List T). set (after_next logs log) log (xs ++ x ∷ [])) (after_same logs log)
        ∙ set_set logs log (drop 1 (log_at logs log)) (drop 1 (log_at logs log) ++ x ∷ [])))
    | inr apart ↦
        ap (λ (xs : List T). set (with_last logs log x) m (drop 1 xs)) (last_other logs log m x apart)
        ∙ set_comm logs log m (log_at logs log ++ x ∷ []) (drop 1 (log_at logs m)) (λ e. apart (sym e))
        ∙ ap (λ (xs : List T). set (after_next logs m) log (xs ++ x ∷ []))
        (sym (after_other logs m log (λ e. apart (sym e))))
  ]

  first_stays : (logs : List (List T)) (m log : ℕ) (y x : T) → log < length logs →
      log_at logs m ≡ y ∷ drop 1 (log_at logs m)
      → log_at (with_last logs log x) m ≡ y ∷ drop 1 (log_at (with_last logs log x) m)
  first_stays logs m log y x within first = elim (cases_eq m log) [
    | inl same ↦
        let whole : log_at (with_last logs log x) m ≡ log_at logs m ++ x ∷ [] =
        subst (λ k. log_at (with_last logs log x) k ≡ log_at logs k ++ x ∷ []) (sym same)
        (last_same logs log x within) in
        subst (λ (xs : List T). xs ≡ y ∷ drop 1 xs) (sym whole)
        (ap (λ (xs : List T). xs ++ x ∷ []) first ∙ ap (λ (xs : List T). y ∷ xs)
        (sym (drop_one (log_at logs m) y x first)))
    | inr apart ↦ subst (λ (xs : List T). xs ≡ y ∷ drop 1 xs) (sym (last_other logs log m x apart)) first
  ]

  taken_with : (logs : List (List T)) (order : List ℕ) (gone : List T) (left : List (List T)) (log : ℕ) (x : T) →
      log < length logs → TakesUpTo logs order gone left
      → TakesUpTo (with_last logs log x) order gone (with_last left log x)
  taken_with logs [] [] left log x within taken = ap (λ (ls : List (List T)). with_last ls log x) taken
  taken_with logs [] (y ∷ gone) left log x within taken = absurd taken
  taken_with logs (m ∷ order) [] left log x within taken = absurd taken
  taken_with logs (m ∷ order) (y ∷ gone) left log x within taken = (
    first_stays logs m log y x within taken.0,
    subst (λ (ls : List (List T)). TakesUpTo ls order gone (with_last left log x))
        (sym (last_after logs m log y x within taken.0))
        (taken_with (after_next logs m) order gone left log x
        (let len = length-set logs m (drop 1 (log_at logs m)) in omega (arith, len, within)) taken.1),
  )

pub entry_stays : EntriesStay
entry_stays skeletons left reached log x within h = record {
  gone = h.gone;
  has_gone = record {
    order = h.has_gone.order;
    taken = taken_with skeletons h.has_gone.order h.gone left log x within h.has_gone.taken;
    kept = h.has_gone.kept;
  };
  counted = λ other. elim (cases_eq other log) [
    | inl same ↦ subst (λ k. slice_index reached.places k + length (log_at (with_entry left log x) k)
        ≡ length (log_at (with_entry skeletons log x) k)) (sym same) here
    | inr apart ↦ ap (λ (xs : List (ℕ × ℕ)). slice_index reached.places other + length xs)
        (last_other left log other x apart) ∙ h.counted other
        ∙ sym (ap length (last_other skeletons log other x apart))
  ];
  numbered = h.numbered;
}
  where
    here : slice_index reached.places log + length (log_at (with_entry left log x) log)
        ≡ length (log_at (with_entry skeletons log x) log)
    here =
        let count = left_len skeletons reached left h in
        let is_left = ap length (last_same left log x (omega (arith, count, within)))
        ∙ length-append (log_at left log) (x ∷ []) in
        let is_whole = ap length (last_same skeletons log x within)
        ∙ length-append (log_at skeletons log) (x ∷ []) in
        omega (arith, is_left, is_whole, h.counted log)

-- ... and one that may go as soon as it comes, has gone
module _ (skeletons left : List (List (ℕ × ℕ))) (reached : Reached) (log : ℕ) (x : ℕ × ℕ)
    (within : log < length skeletons) (none : log_at left log ≡ []) (h : HasReached skeletons reached left)
    (log_is : log < length reached.places) (bank_is : x.0 < length reached.next)
    (carries : x.0 < no_bank → x.1 ≡ slice_index reached.next x.0) where
  abbrev after : Reached
  after = record {
    places = set reached.places log (slice_index reached.places log + 1);
    next = set reached.next x.0 (x.1 + 1);
  }

  its_number : x.0 < no_bank → x.1 ≡ next_number h.gone x.0
  its_number lt = carries lt ∙ h.numbered x.0 lt

  last_there : log_at (with_entry left log x) log ≡ x ∷ []
  last_there = last_same left log x (let count = left_len skeletons reached left h in omega (arith, count, within))
      ∙ ap (λ (xs : List (ℕ × ℕ)). xs ++ x ∷ []) none

  none_after : after_next (with_entry left log x) log ≡ left
  none_after =
      ap (λ (xs : List (ℕ × ℕ)). set (with_entry left log x) log (drop 1 xs)) last_there
      ∙ set_set left log (log_at left log ++ x ∷ []) [] ∙ ap (set left log) (sym none) ∙ set-get_or left log []

  counted : (other : ℕ) → slice_index after.places other + length (log_at left other)
      ≡ length (log_at (with_entry skeletons log x) other)
  counted other = elim (cases_eq other log) [
    | inl same ↦ subst (λ k. slice_index after.places k + length (log_at left k)
        ≡ length (log_at (with_entry skeletons log x) k)) (sym same)
        (let place = get_or-set_same reached.places log (slice_index reached.places log + 1) 0 log_is in
        let whole = ap length (last_same skeletons log x within) ∙ length-append (log_at skeletons log) (x ∷ []) in
        omega (arith, place, whole, h.counted log))
    | inr apart ↦
        let place = get_or-set_other reached.places log other (slice_index reached.places log + 1) 0 apart in
        let whole = ap length (last_other skeletons log other x apart) in
        omega (arith, place, whole, h.counted other)
  ]

  numbered : (bank : ℕ) → bank < no_bank → slice_index after.next bank ≡ bump (next_number h.gone) x.0 bank
  numbered bank lt = elim (cases_eq bank x.0) [
    | inl same ↦ subst (λ k. slice_index after.next k ≡ bump (next_number h.gone) x.0 k) (sym same)
        (get_or-set_same reached.next x.0 (x.1 + 1) 0 bank_is
        ∙ ap (λ k. k + 1) (its_number (subst (λ k. k < no_bank) same lt))
        ∙ sym (bump_same (next_number h.gone) x.0 x.0 refl))
    | inr apart ↦ get_or-set_other reached.next x.0 bank (x.1 + 1) 0 apart
        ∙ h.numbered bank lt ∙ sym (bump_other (next_number h.gone) x.0 bank (λ e. apart (sym e)))
  ]

  pub entry_goes : HasReached (with_entry skeletons log x) after left
  entry_goes = record {
    gone = h.gone ++ x ∷ [];
    has_gone = record {
      order = h.has_gone.order ++ log ∷ [];
      taken = subst
          (TakesUpTo (with_entry skeletons log x) (h.has_gone.order ++ log ∷ []) (h.gone ++ x ∷ [])) none_after
          (taken_more (with_entry skeletons log x) h.has_gone.order h.gone (with_entry left log x) log x
          (taken_with skeletons h.has_gone.order h.gone left log x within h.has_gone.taken)
          (subst (λ (xs : List (ℕ × ℕ)). xs ≡ x ∷ drop 1 xs) (sym last_there) refl));
      kept = kept_more h.gone x its_number h.has_gone.kept;
    };
    counted = counted;
    numbered = λ bank lt. numbered bank lt ∙ sym (ap (λ (f : ℕ → ℕ). f bank) (next_more h.gone x));
  }
