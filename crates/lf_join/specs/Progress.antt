-- How far the logs went while their entries came.
use Rattle.std.specs.Prelude.{◌≡◌, ℕ, ◌+◌, ◌<◌, ◌≤◌, ◌^◌, List, [], ◌∷◌, ◌++◌, length, slice_index, slice_set}
use Rattle.std.specs.List.{All}
use Rattle.lf_rules.specs.Address.{no_bank}
use Rattle.lf_rules.specs.Order.{log_at, IsOrder}
use Rattle.lf_join.specs.Join.{HasGone, next_number, BanksAreWhole}

-- how many entries of each log have gone, and the number that each bank's next entry carries
pub record Reached : Type 0 where
  pub places : List ℕ
  pub next : List ℕ

-- Some entries of the logs have gone, in an order that keeps the numbers: as many of each log as is said, and of each
-- bank those below its next number. These entries are left.
pub record HasReached (skeletons : List (List (ℕ × ℕ))) (reached : Reached) (left : List (List (ℕ × ℕ))) : Type
    0 where
  pub gone : List (ℕ × ℕ)
  pub has_gone : HasGone skeletons gone left
  pub counted : (log : ℕ) → slice_index reached.places log + length (log_at left log) ≡ length (log_at skeletons log)
  pub numbered : (bank : ℕ) → bank < no_bank → slice_index reached.next bank ≡ next_number gone bank

-- the logs with one more entry at the end of this one
abbrev pub with_entry : List (List (ℕ × ℕ)) → ℕ → ℕ × ℕ → List (List (ℕ × ℕ))
with_entry skeletons log entry = slice_set skeletons log (log_at skeletons log ++ entry ∷ [])

abbrev pub HasAnOrder : List (List (ℕ × ℕ)) → Type 0
HasAnOrder skeletons = (order : List ℕ) × IsOrder skeletons order

-- The numbers of the logs are whole, and none of them is too long.
pub record AreLogs (skeletons : List (List (ℕ × ℕ))) : Type 0 where
  pub whole : BanksAreWhole skeletons
  pub short : All (λ entries. length entries ≤ 2 ^ 24) skeletons

-- So it is of all logs that have reached this and of which these entries are left.
abbrev pub OfReached : Reached → List (List (ℕ × ℕ)) → (List (List (ℕ × ℕ)) → Type 0) → Type 0
OfReached reached left Holds = (skeletons : List (List (ℕ × ℕ))) → AreLogs skeletons
    → HasReached skeletons reached left → Holds skeletons

-- ---- laws

-- where an entry comes that does not go, it is left
abbrev pub EntriesStay : Type 0
EntriesStay = (skeletons left : List (List (ℕ × ℕ))) (reached : Reached) (log : ℕ) (entry : ℕ × ℕ)
    → log < length skeletons → HasReached skeletons reached left
    → HasReached (with_entry skeletons log entry) reached (with_entry left log entry)
