-- The skeletons of the logs: whole numbers, and how long an order is.
use Rattle.std.proofs.Common.{◌≡◌, ℕ, suc, ◌+◌, ◌*◌, ◌<◌, ◌≤◌, Bool, true, false, cond, List, [], ◌∷◌, ◌++◌, map}
use Rattle.std.proofs.Common.{length, get_or, drop, refl, sym, ◌∙◌, ap, subst, arith, inl, inr, eqb-true, sum_by}
use Rattle.std.specs.Prelude.{◌==◌}
use Rattle.std.specs.List.{flat_map, AllByRecursion, All}
use Rattle.std.specs.Global.{Vec}
use Rattle.std.proofs.lemmas.Bool.{cases_lt}
use Rattle.std.proofs.lemmas.List.{length-map, map-append, get_or_past, get_or_default}
use Rattle.std.proofs.lemmas.List.Concat.{flat_map-cons}
use Rattle.std.proofs.lemmas.List.Sums.{sum_by-set, sum_by-le}
use Rattle.std.proofs.lemmas.List.Elements.{All-map, All-weaker}
use Rattle.std.proofs.Math.Nat.{mul-le-mul_right}
use Rattle.lf_rules.specs.Lists.{lists_of}
use Rattle.lf_rules.specs.declared.shape.Shape.{Shape}
use Rattle.lf_rules.specs.declared.event.Record.{Record}
use Rattle.lf_rules.specs.declared.event.Event.{Event}
use Rattle.lf_rules.specs.declared.event.Event.TheVariants.{Fence}
use Rattle.lf_rules.specs.Address.{no_bank}
use Rattle.lf_rules.specs.Fits.{FitsBank, Fits}
use Rattle.lf_rules.specs.Run.{of_bank}
use Rattle.lf_rules.specs.Order.{log_at, after_next, Takes, entries_of}
use Rattle.lf_rules.specs.Numbers.{all_records, numbers_of, bank_numbers, IsWhole}
use Rattle.lf_rules.specs.Ring.{entry_of, skeletons_of}
use Rattle.lf_join.specs.Join.{BanksAreWhole}
use Rattle.lf_verdict.specs.inner.Ending.{AreWholeBelow}
use Rattle.lf_verdict.specs.inner.Jobs.{LogsFit, AllAreWhole}

-- ---- the entries of a bank carry the numbers of its records

all_entries : (logs : List (List Record)) → flat_map (λ (entries : List (ℕ × ℕ)). entries) (skeletons_of logs)
    ≡ map entry_of (all_records logs)
all_entries [] = refl
all_entries (rs ∷ logs) =
    flat_map-cons (λ (entries : List (ℕ × ℕ)). entries) (map entry_of rs) (skeletons_of logs)
    ∙ ap (λ (xs : List (ℕ × ℕ)). map entry_of rs ++ xs) (all_entries logs)
    ∙ sym (map-append entry_of rs (all_records logs))
    ∙ ap (map entry_of) (sym (flat_map-cons (λ (xs : List Record). xs) rs logs))

entries_numbers : (bank : ℕ) (rs : List Record) → map (λ (entry : ℕ × ℕ). entry.1) (entries_of bank (map entry_of rs))
    ≡ numbers_of (of_bank bank rs)
entries_numbers bank [] = refl
entries_numbers bank (r ∷ rs) = go (r.bank == bank) (entries_numbers bank rs)
  where
    go : (b : Bool) → map (λ (entry : ℕ × ℕ). entry.1) (entries_of bank (map entry_of rs))
        ≡ numbers_of (of_bank bank rs)
        → map (λ (entry : ℕ × ℕ). entry.1) (cond b (entry_of r ∷ entries_of bank (map entry_of rs))
        (entries_of bank (map entry_of rs))) ≡ numbers_of (cond b (r ∷ of_bank bank rs) (of_bank bank rs))
    go true e = ap (λ ns. r.number ∷ ns) e
    go false e = e

pub banks_whole : (logs : List (List Record)) → AllAreWhole logs → BanksAreWhole (skeletons_of logs)
banks_whole logs whole bank lt =
    let e = ap (λ (xs : List (ℕ × ℕ)). map (λ (entry : ℕ × ℕ). entry.1) (entries_of bank xs)) (all_entries logs)
    ∙ entries_numbers bank (all_records logs) in
    subst IsWhole (sym e) (whole bank lt)

-- ---- no record names a bank that the shape does not have

all_append : (P : Record → Type 0) (xs ys : List Record) → AllByRecursion P xs → AllByRecursion P ys →
    AllByRecursion P (xs ++ ys)
all_append P [] ys a b = b
all_append P (x ∷ xs) ys a b = (a.0, all_append P xs ys a.1 b)

pub all_of_logs : (P : Record → Type 0) (logs : List (List Record)) →
    ((log : ℕ) → AllByRecursion P (log_at logs log)) → AllByRecursion P (all_records logs)
all_of_logs P [] each = tt
all_of_logs P (rs ∷ logs) each =
    subst (AllByRecursion P) (sym (flat_map-cons (λ (xs : List Record). xs) rs logs))
    (all_append P rs (all_records logs) (each 0) (all_of_logs P logs (λ log. each (suc log))))

-- a record that names a bank names one of these
names_bank : (banks bank number : ℕ) (event : Event) → FitsBank banks bank number event → bank < no_bank → bank < banks
names_bank banks bank number Fence fits lt = absurd (omega (arith, fits.0, lt))
names_bank banks bank number _ fits lt = fits

pub none_of_bank : (shape : Shape) (bank : ℕ) (rs : List Record) → bank < no_bank → shape.banks ≤ bank →
    AllByRecursion (Fits shape) rs → of_bank bank rs ≡ []
none_of_bank shape bank [] lt le fits = refl
none_of_bank shape bank (r ∷ rs) lt le fits = go (r.bank == bank) refl (none_of_bank shape bank rs lt le fits.1)
  where
    go : (b : Bool) → (r.bank == bank) ≡ b → of_bank bank rs ≡ [] → cond b (r ∷ of_bank bank rs) (of_bank bank rs) ≡ []
    go true e rest =
        let same = eqb-true r.bank bank e in
        absurd (omega (
          arith,
          same,
          names_bank shape.banks r.bank r.number r.event fits.0.bank
              (omega (arith, same, lt)),
        ))
    go false e rest = rest

pub all_whole : (shape : Shape) (logs : List (List Record)) → LogsFit shape logs → AreWholeBelow logs shape.banks →
    AllAreWhole logs
all_whole shape logs fits below bank is_bank =
    elim (cases_lt bank shape.banks) [
      | inl lt ↦ below bank lt
      | inr le ↦
          let none : bank_numbers logs bank ≡ [] = ap numbers_of
          (none_of_bank shape bank (all_records logs) is_bank le (all_of_logs (Fits shape) logs fits)) in
          subst IsWhole (sym none) (λ k lt. absurd (omega arith))
    ]

-- ---- an order is as long as all logs together

one_less : {T : Type 0} (logs : List (List T)) (log : ℕ) (x : T) → log_at logs log ≡ x ∷ drop 1 (log_at logs log) →
    sum_by length (after_next logs log) + 1 ≡ sum_by length logs
one_less logs log x e =
    elim (cases_lt log (length logs)) [
      | inl lt ↦
          let here : length (log_at logs log) ≡ length (drop 1 (log_at logs log)) + 1 = ap length e ∙ omega arith in
          omega (arith, sum_by-set length logs log (drop 1 (log_at logs log)) [] lt, here)
      | inr le ↦
          let past : log_at logs log ≡ [] = get_or_past logs log [] le in
          absurd (cc)
    ]

pub order_len : {T : Type 0} (logs : List (List T)) (order : List ℕ) (xs : List T) → Takes logs order xs →
    length order ≡ sum_by length logs
order_len logs [] [] taken = omega (
  arith,
  sum_by-le length 0 logs (λ log d inside.
      let none : get_or logs log d ≡ [] = get_or_default logs log d [] inside ∙ taken log in
      omega (arith, ap length none)),
)
order_len logs [] (x ∷ xs) taken = absurd taken
order_len logs (log ∷ order) [] taken = absurd taken
order_len logs (log ∷ order) (x ∷ xs) taken =
    omega (arith, order_len (after_next logs log) order xs taken.1, one_less logs log x taken.0)

lists_short : (n : ℕ) (vecs : List (Vec Record)) → All (λ (v : Vec Record). length v.items ≤ n) vecs
    → All (λ (entries : List (ℕ × ℕ)). length entries ≤ n) (map (map entry_of) (map (λ (v : Vec Record). v.items) vecs))
lists_short n vecs short =
    let IsShort : List (ℕ × ℕ) → Type 0 = λ entries. length entries ≤ n in
    let IsShortLog : List Record → Type 0 = λ rs. length (map entry_of rs) ≤ n in
    All-map IsShort (map entry_of) (map (λ (v : Vec Record). v.items) vecs)
    (All-map IsShortLog (λ (v : Vec Record). v.items) vecs
    (All-weaker (λ (v : Vec Record). length v.items ≤ n) (λ (v : Vec Record). IsShortLog v.items)
    (λ v le. omega (arith, length-map v.items entry_of)) vecs short))

-- an order of few short logs is short
pub order_short : (vecs : Vec (Vec Record)) (order : List ℕ) (entries : List (ℕ × ℕ)) (count n : ℕ) →
    length vecs.items ≤ count → All (λ (v : Vec Record). length v.items ≤ n) vecs.items
    → Takes (skeletons_of (lists_of vecs)) order entries → length order ≤ count * n
order_short vecs order entries count n few short taken =
    let skeletons = skeletons_of (lists_of vecs) in
    let sum = sum_by-le length n skeletons (lists_short n vecs.items short) in
    let len : length skeletons ≡ length vecs.items = length-map (lists_of vecs) (map entry_of)
    ∙ length-map vecs.items (λ (v : Vec Record). v.items) in
    let more : length skeletons * n ≤ count * n = mul-le-mul_right n (omega (arith, len, few)) in
    omega (arith, order_len skeletons order entries taken, sum, more)

pub skeletons_short : (vecs : Vec (Vec Record)) (n : ℕ) → All (λ (v : Vec Record). length v.items ≤ n) vecs.items →
    All (λ (entries : List (ℕ × ℕ)). length entries ≤ n) (skeletons_of (lists_of vecs))
skeletons_short vecs n short = lists_short n vecs.items short
