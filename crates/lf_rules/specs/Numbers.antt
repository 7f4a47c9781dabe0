-- The numbers that the records of a bank carry.
use Rattle.std.specs.Prelude.{◌≡◌, ℕ, ◌<◌, ◌⊎◌, ◌==◌, List, [], map, length, count_by, slice_index_or, IsPermutation}
use Rattle.std.specs.List.{range_with_len, flat_map, AllByRecursion}
use Rattle.lf_rules.specs.declared.event.Record.{Record}
use Rattle.lf_rules.specs.declared.shape.Shape.{Shape}
use Rattle.lf_rules.specs.Address.{no_bank}
use Rattle.lf_rules.specs.Fits.{Fits}
use Rattle.lf_rules.specs.Run.{of_bank, Interleaves, KeepsNumbers}

-- the records of all logs
abbrev pub all_records : List (List Record) → List Record
all_records logs = flat_map (λ rs. rs) logs

abbrev pub numbers_of : List Record → List ℕ
numbers_of rs = map (λ r. r.number) rs

-- the numbers that name the bank, over all logs
abbrev pub bank_numbers : List (List Record) → ℕ → List ℕ
bank_numbers logs bank = numbers_of (of_bank bank (all_records logs))

abbrev pub times : ℕ → List ℕ → ℕ
times k numbers = count_by (λ n. n == k) numbers

-- k does not occur, and a greater number does
abbrev pub IsMissing : List ℕ → ℕ → Type 0
IsMissing numbers k = (times k numbers ≡ 0) × ((m : ℕ) × (k < m) × (0 < times m numbers))

-- k occurs more than once
abbrev pub IsDouble : List ℕ → ℕ → Type 0
IsDouble numbers k = 1 < times k numbers

-- no number below k is missing or double
abbrev pub IsFineBelow : List ℕ → ℕ → Type 0
IsFineBelow numbers k = (j : ℕ) → j < k → (IsMissing numbers j → ⊥) × (IsDouble numbers j → ⊥)

-- 0 to n - 1, each once
abbrev pub IsWhole : List ℕ → Type 0
IsWhole numbers = (k : ℕ) → k < length numbers → times k numbers ≡ 1

-- the bank's records of all logs, each once, in the order of their numbers
pub record IsNumbered (logs : List (List Record)) (bank : ℕ) (rs : List Record) : Type 0 where
  pub numbers : numbers_of rs ≡ range_with_len 0 (length rs)
  pub same : IsPermutation rs (of_bank bank (all_records logs))

-- ---- laws

-- the records of all logs are those of an interleaving, so where they fit, those do
abbrev pub InterleavingsFit : Type 0
InterleavingsFit = (shape : Shape) (logs : List (List Record)) (rs : List Record) → Interleaves logs rs
    → ((log : ℕ) → AllByRecursion (Fits shape) (slice_index_or logs log [])) → AllByRecursion (Fits shape) rs

-- an interleaving that keeps the numbers has each bank's records of all logs, in the order of their numbers
abbrev pub InterleavingsAreNumbered : Type 0
InterleavingsAreNumbered = (logs : List (List Record)) (rs : List Record) → Interleaves logs rs → KeepsNumbers rs →
    (bank : ℕ) → bank < no_bank → IsNumbered logs bank (of_bank bank rs)

-- there is only one such order
abbrev pub NumberedIsOne : Type 0
NumberedIsOne = (logs : List (List Record)) (bank : ℕ) (a b : List Record) → IsNumbered logs bank a →
    IsNumbered logs bank b → a ≡ b

-- where there is one, the numbers are whole
abbrev pub NumberedIsWhole : Type 0
NumberedIsWhole = (logs : List (List Record)) (bank : ℕ) (rs : List Record) → IsNumbered logs bank rs →
    IsWhole (bank_numbers logs bank)

-- where a number is missing or double, no list of all logs keeps the numbers
abbrev pub GapsAdmitNone : Type 0
GapsAdmitNone = (logs : List (List Record)) (bank k : ℕ) → bank < no_bank →
    IsMissing (bank_numbers logs bank) k ⊎ IsDouble (bank_numbers logs bank) k
    → (rs : List Record) → Interleaves logs rs → KeepsNumbers rs → ⊥
