-- Orders: lists of log numbers, which name at each place the log whose next element comes.
use Rattle.std.specs.Prelude.{◌≡◌, ℕ, ◌<◌, ◌↔◌, ◌⊎◌, ◌==◌, List, [], ◌∷◌, map, filter, length, drop, slice_index_or}
use Rattle.std.specs.Prelude.{slice_set}
use Rattle.std.specs.List.{range_with_len}
use Rattle.lf_rules.specs.declared.event.Record.{Record}
use Rattle.lf_rules.specs.Address.{no_bank}
use Rattle.lf_rules.specs.Run.{NameTheirLogs, Interleaves, KeepsNumbers}
use Rattle.lf_rules.specs.Ring.{entry_of, skeletons_of}

module _ {T : Type 0} where
  abbrev pub log_at : List (List T) → ℕ → List T
  log_at logs log = slice_index_or logs log []

  -- the logs without the next element of this one
  abbrev pub after_next : List (List T) → ℕ → List (List T)
  after_next logs log = slice_set logs log (drop 1 (log_at logs log))

  -- The order takes these elements from the logs, each the next one of the log that it names, and leaves none.
  abbrev pub Takes : List (List T) → List ℕ → List T → Type 0
  Takes logs [] [] = (log : ℕ) → log_at logs log ≡ []
  Takes logs [] (x ∷ xs) = ⊥
  Takes logs (log ∷ order) [] = ⊥
  Takes logs (log ∷ order) (x ∷ xs) = (log_at logs log ≡ x ∷ drop 1 (log_at logs log)) ×
      Takes (after_next logs log) order xs

-- ---- orders of skeletons: lists of (bank, number)

abbrev pub entries_of : ℕ → List (ℕ × ℕ) → List (ℕ × ℕ)
entries_of bank entries = filter (λ entry. entry.0 == bank) entries

-- Each bank's entries carry 0, 1, 2, .. in this order.
abbrev pub EntriesKeepNumbers : List (ℕ × ℕ) → Type 0
EntriesKeepNumbers entries = (bank : ℕ) → bank < no_bank →
    map (λ entry. entry.1) (entries_of bank entries) ≡ range_with_len 0 (length (entries_of bank entries))

-- The order takes all the skeletons' entries, and they keep the numbers.
pub record IsOrder (skeletons : List (List (ℕ × ℕ))) (order : List ℕ) : Type 0 where
  pub entries : List (ℕ × ℕ)
  pub taken : Takes skeletons order entries
  pub kept : EntriesKeepNumbers entries

-- a stands before b in the order of words, or is b
abbrev pub IsNotAbove : List ℕ → List ℕ → Type 0
IsNotAbove [] b = Unit {0}
IsNotAbove (x ∷ a) [] = ⊥
IsNotAbove (x ∷ a) (y ∷ b) = (x < y) ⊎ ((x ≡ y) × IsNotAbove a b)

pub record IsLeastOrder (skeletons : List (List (ℕ × ℕ))) (order : List ℕ) : Type 0 where
  pub is_order : IsOrder skeletons order
  pub least : (other : List ℕ) → IsOrder skeletons other → IsNotAbove order other

-- ---- laws

-- an order takes a list from the logs exactly where the list is an interleaving and the order names its logs
abbrev pub OrdersInterleave : Type 0
OrdersInterleave = (logs : List (List Record)) (order : List ℕ) (rs : List Record) → NameTheirLogs logs
    → Takes logs order rs ↔ (Interleaves logs rs × (map (λ r. r.log) rs ≡ order))

-- it takes only one list
abbrev pub OrdersTakeOne : Type 0
OrdersTakeOne = (logs : List (List Record)) (order : List ℕ) (a b : List Record) → Takes logs order a →
    Takes logs order b → a ≡ b

-- what it takes from the skeletons are the entries of what it takes from the logs
abbrev pub SkeletonsFollow : Type 0
SkeletonsFollow = (logs : List (List Record)) (order : List ℕ) (rs : List Record) → Takes logs order rs →
    Takes (skeletons_of logs) order (map entry_of rs)

abbrev pub LogsFollow : Type 0
LogsFollow = (logs : List (List Record)) (order : List ℕ) (entries : List (ℕ × ℕ)) →
    Takes (skeletons_of logs) order entries
    → (rs : List Record) × Takes logs order rs × (map entry_of rs ≡ entries)

-- records keep the numbers exactly where their entries do
abbrev pub EntriesKeepAlike : Type 0
EntriesKeepAlike = (rs : List Record) → KeepsNumbers rs ↔ EntriesKeepNumbers (map entry_of rs)
