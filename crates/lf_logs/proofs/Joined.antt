-- The records of the first logs, and how many they are.
use Rattle.std.proofs.Common.{◌≡◌, ℕ, ◌+◌, ◌*◌, ◌<◌, ◌≤◌, ◌^◌, zero, suc, List, [], ◌∷◌, ◌++◌, length, get_or}
use Rattle.std.proofs.Common.{take, sym, ap, ◌∙◌, arith, add-one}
use Rattle.std.specs.List.{All}
use Rattle.std.proofs.lemmas.List.{append-nil, length-append, take_more, take_all}
use Rattle.std.proofs.lemmas.List.Concat.{flat_map-append}
use Rattle.std.proofs.lemmas.List.Elements.{filter-append}
use Rattle.std.proofs.lemmas.List.Sums.{length-filter, count_by-le-length}
use Rattle.lf_rules.specs.declared.event.Record.{Record}
use Rattle.lf_rules.specs.Run.{of_bank, names}
use Rattle.lf_rules.specs.Numbers.{all_records}

-- the records of the first n logs
abbrev pub of_first : ℕ → List (List Record) → List Record
of_first n logs = all_records (take n logs)

pub of_first-more : (logs : List (List Record)) (i : ℕ) (d : List Record) → i < length logs →
    of_first (i + 1) logs ≡ of_first i logs ++ get_or logs i d
of_first-more logs i d inside =
    ap all_records (take_more logs i d inside)
    ∙ flat_map-append (λ rs. rs) (take i logs) (get_or logs i d ∷ [])
    ∙ ap (λ rs. of_first i logs ++ rs) (append-nil (get_or logs i d))

pub of_first-all : (logs : List (List Record)) (i : ℕ) → length logs ≤ i → of_first i logs ≡ all_records logs
of_first-all logs i all = ap all_records (take_all i logs all)

pub of_bank-append : (bank : ℕ) (xs ys : List Record) → length (of_bank bank (xs ++ ys)) ≡ length (of_bank bank xs)
    + length (of_bank bank ys)
of_bank-append bank xs ys = ap length (filter-append (names bank) xs ys)
    ∙ length-append (of_bank bank xs) (of_bank bank ys)

pub of_bank-le : (bank : ℕ) (rs : List Record) → length (of_bank bank rs) ≤ length rs
of_bank-le bank rs = omega (arith, length-filter (names bank) rs, count_by-le-length (names bank) rs)

-- logs of a bounded length have a bounded number of records of a bank
pub of_first-le : (bank : ℕ) (logs : List (List Record)) → All (λ log. length log ≤ 2 ^ 24) logs → (i : ℕ) →
    i ≤ length logs →
    length (of_bank bank (of_first i logs)) ≤ i * 2 ^ 24
of_first-le bank logs short zero within = omega arith
of_first-le bank [] short (suc i) within = absurd (omega arith)
of_first-le bank (log ∷ logs) short (suc i) within =
    let before = of_first-le bank (log ∷ logs) short i (omega arith) in
    let this = get_or (log ∷ logs) i log in
    let more = ap (λ n. of_first n (log ∷ logs)) (sym (add-one i)) ∙ of_first-more (log ∷ logs) i log (omega arith) in
    let sum = ap (λ rs. length (of_bank bank rs)) more ∙ of_bank-append bank (of_first i (log ∷ logs)) this in
    let few = of_bank-le bank this in
    let short_one = short i log (omega arith) in
    omega (arith, before, sum, few, short_one)

pub all_records-le : (bank : ℕ) (logs : List (List Record)) → All (λ log. length log ≤ 2 ^ 24) logs →
    length logs ≤ 32 →
    length (of_bank bank (all_records logs)) ≤ 2 ^ 29
all_records-le bank logs short few =
    let all = ap (λ rs. length (of_bank bank rs)) (of_first-all logs (length logs) (omega arith)) in
    omega (arith, of_first-le bank logs short (length logs) (omega arith), all, few)

-- and of records of all banks
pub all_le : (logs : List (List Record)) → All (λ log. length log ≤ 2 ^ 24) logs
    → length (all_records logs) ≤ length logs * 0x100_0000
all_le [] short = omega arith
all_le (log ∷ logs) short =
    let rest = all_le logs (λ k d h. short (suc k) d (omega arith)) in
    let here = short 0 log (omega arith) in
    omega (arith, length-append log (all_records logs), rest, here)
