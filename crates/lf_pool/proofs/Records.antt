-- The records of a bank, at their places.
use Rattle.std.proofs.Common.{◌≡◌, ℕ, suc, ◌+◌, ◌<◌, Bool, true, false, cond, eqb-true, List, [], ◌∷◌, ◌++◌, length}
use Rattle.std.proofs.Common.{take, get_or, Option, Some, refl, sym, ◌∙◌, ap, subst}
use Rattle.std.specs.Prelude.{◌==◌}
use Rattle.std.specs.List.{filter_map, AllByRecursion}
use Rattle.std.specs.List.Sorted.{IsPermutation}
use Rattle.std.specs.Global.{Vec}
use Rattle.std.specs.Borrow.{Bor}
use Rattle.std.proofs.lemmas.List.{take_more, map-append, get_or-map}
use Rattle.std.proofs.lemmas.List.Sorted.{All-permutation, IsPermutation-sym}
use Rattle.std.proofs.lemmas.List.Elements.{All-from_recursion, recursion_from_All, filter_map-append}
use Rattle.std.proofs.lemmas.List.Concat.{flat_map-cons}
use Rattle.lf_rules.specs.declared.shape.Shape.{Shape}
use Rattle.lf_rules.specs.declared.event.Record.{Record}
use Rattle.lf_rules.specs.Fits.{Fits}
use Rattle.lf_rules.specs.Numbers.{IsNumbered, all_records}
use Rattle.lf_rules.specs.Order.{log_at}
use Rattle.lf_rules.specs.Run.{of_bank}
use Rattle.lf_logs.specs.declared.order.Place.{Place}
use Rattle.lf_rules.specs.Lists.{lists_of}
use Rattle.lf_logs.specs.Places.{record_at, records_at}
use Rattle.lf_replay.specs.Lent.{lent}
use Rattle.lf_replay.specs.Step.{IsBankOrder}

-- one more is lent
pub record_more : (logs : List (List Record)) (places : List Place) (i : ℕ) (d : Place) (old new : List (Bor Record))
    (item : Bor Record) → i < length places
    → lent old ≡ records_at logs (take i places) → new ≡ old ++ item ∷ [] →
    record_at logs (get_or places i d) ≡ Some item.now → lent new ≡ records_at logs (take (i + 1) places)
record_more logs places i d old new item lt before pushed there =
    let one : records_at logs (take (i + 1) places) ≡ records_at logs (take i places)
    ++ records_at logs (get_or places i d ∷ []) =
    ap (records_at logs) (take_more places i d lt) ∙ filter_map-append (record_at logs) (take i places)
    (get_or places i d ∷ []) in
    let all : records_at logs (take (i + 1) places) ≡ records_at logs (take i places) ++ item.now ∷ [] =
    one ∙ ap (λ (o : Option Record). records_at logs (take i places)
    ++ filter_map (λ (x : Option Record). x) (o ∷ [])) there in
    ap lent pushed ∙ (map-append (λ (r : Bor Record). r.now) old (item ∷ [])
    ∙ (ap (λ xs. xs ++ item.now ∷ []) before ∙ sym all))

-- the list that a vector of them holds
pub list_of : {T : Type 0} (vecs : Vec (Vec T)) (i : ℕ) (d : Vec T) → i < length vecs.items →
    log_at (lists_of vecs) i ≡ (get_or vecs.items i d).items
list_of {T} vecs i d lt = get_or-map (λ (v : Vec T). v.items) vecs.items i d [] lt

-- ---- a numbered list is a bank's

all_append : (P : Record → Type 0) (xs ys : List Record) → AllByRecursion P xs → AllByRecursion P ys →
    AllByRecursion P (xs ++ ys)
all_append P [] ys a b = b
all_append P (x ∷ xs) ys a b = (a.0, all_append P xs ys a.1 b)

all_of_logs : (P : Record → Type 0) (logs : List (List Record)) → ((log : ℕ) → AllByRecursion P (log_at logs log)) →
    AllByRecursion P (all_records logs)
all_of_logs P [] each = tt
all_of_logs P (rs ∷ logs) each =
    subst (AllByRecursion P) (sym (flat_map-cons (λ (xs : List Record). xs) rs logs))
    (all_append P rs (all_records logs) (each 0) (all_of_logs P logs (λ log. each (suc log))))

fits_and_names : (shape : Shape) (bank : ℕ) (rs : List Record) → AllByRecursion (Fits shape) rs →
    AllByRecursion (Fits shape) (of_bank bank rs) × AllByRecursion (λ r. r.bank ≡ bank) (of_bank bank rs)
fits_and_names shape bank [] fits = (tt, tt)
fits_and_names shape bank (r ∷ rs) fits = go (r.bank == bank) refl (fits_and_names shape bank rs fits.1)
  where
    go : (b : Bool) → (r.bank == bank) ≡ b → AllByRecursion (Fits shape) (of_bank bank rs) ×
        AllByRecursion (λ r. r.bank ≡ bank) (of_bank bank rs)
        → AllByRecursion (Fits shape) (cond b (r ∷ of_bank bank rs) (of_bank bank rs)) ×
        AllByRecursion (λ r. r.bank ≡ bank) (cond b (r ∷ of_bank bank rs) (of_bank bank rs))
    go true e rest = ((fits.0, rest.0), (eqb-true r.bank bank e, rest.1))
    go false e rest = rest

all_moved : (P : Record → Type 0) (xs ys : List Record) → IsPermutation xs ys → AllByRecursion P xs →
    AllByRecursion P ys
all_moved P xs ys moved all = recursion_from_All P ys (All-permutation P xs ys moved (All-from_recursion P xs all))

pub bank_list : (shape : Shape) (logs : List (List Record)) (bank : ℕ) (rs : List Record) →
    ((log : ℕ) → AllByRecursion (Fits shape) (log_at logs log))
    → IsNumbered logs bank rs → IsBankOrder shape bank rs
bank_list shape logs bank rs fits is =
    let both = fits_and_names shape bank (all_records logs) (all_of_logs (Fits shape) logs fits) in
    let back = IsPermutation-sym rs (of_bank bank (all_records logs)) is.same in
    record {
      fit = all_moved (Fits shape) (of_bank bank (all_records logs)) rs back both.0;
      named = all_moved (λ r. r.bank ≡ bank) (of_bank bank (all_records logs)) rs back both.1;
      numbered = is.numbers;
    }
