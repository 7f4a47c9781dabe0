-- What the join answers: the least order of all logs, or the ring of logs that wait for one another.
use Rattle.std.specs.Prelude.{◌≡◌, ◌≢◌, ℕ, ◌+◌, ◌%◌, ◌<◌, List, [], ◌∷◌, map, length, drop, Some}
use Rattle.std.specs.List.{flat_map}
use Rattle.std.specs.Global.{Vec}
use Rattle.lf_rules.specs.declared.ring.Knot.{Knot}
use Rattle.lf_rules.specs.Address.{no_bank}
use Rattle.lf_rules.specs.Numbers.{IsWhole}
use Rattle.lf_rules.specs.Order.{log_at, after_next, entries_of, EntriesKeepNumbers, IsOrder}
use Rattle.lf_rules.specs.Ring.{entry_at, knot_at}

-- the skeletons as lists of (bank, number)
abbrev pub skeleton_lists : List (Vec (ℕ × ℕ)) → List (List (ℕ × ℕ))
skeleton_lists skeletons = map (λ skeleton. skeleton.items) skeletons

-- Over all skeletons each bank's numbers are 0 to n - 1, each once. Entries that name no bank have none.
abbrev pub BanksAreWhole : List (List (ℕ × ℕ)) → Type 0
BanksAreWhole skeletons = (bank : ℕ) → bank < no_bank → IsWhole
    (map (λ entry. entry.1) (entries_of bank (flat_map (λ entries. entries) skeletons)))

abbrev pub HasNoOrder : List (List (ℕ × ℕ)) → Type 0
HasNoOrder skeletons = (order : List ℕ) → IsOrder skeletons order → ⊥

-- ---- where nothing more can go

module _ {T : Type 0} where
  -- The order takes these elements from the logs, each the next one of the log that it names, and this is left.
  abbrev pub TakesUpTo : List (List T) → List ℕ → List T → List (List T) → Type 0
  TakesUpTo logs [] [] left = logs ≡ left
  TakesUpTo logs [] (x ∷ xs) left = ⊥
  TakesUpTo logs (log ∷ order) [] left = ⊥
  TakesUpTo logs (log ∷ order) (x ∷ xs) left = (log_at logs log ≡ x ∷ drop 1 (log_at logs log)) ×
      TakesUpTo (after_next logs log) order xs left

-- the number that the bank's next entry carries, where these have gone
abbrev pub next_number : List (ℕ × ℕ) → ℕ → ℕ
next_number gone bank = length (entries_of bank gone)

-- These entries have gone, in an order that keeps the numbers, and this is left of the logs.
pub record HasGone (skeletons : List (List (ℕ × ℕ))) (gone : List (ℕ × ℕ)) (left : List (List (ℕ × ℕ))) : Type 0 where
  pub order : List ℕ
  pub taken : TakesUpTo skeletons order gone left
  pub kept : EntriesKeepNumbers gone

-- Each log's next entry names a bank, and none carries its bank's next number.
abbrev pub NothingGoes : List (ℕ × ℕ) → List (List (ℕ × ℕ)) → Type 0
NothingGoes gone left = (log : ℕ) (entry : ℕ × ℕ) → entry_at (log_at left log) 0 ≡ Some entry → (entry.0 < no_bank) ×
    (entry.1 ≢ next_number gone entry.0)

-- ---- the ring

-- The log's next entry names a bank whose next number the other log holds.
pub record WaitsFor (gone : List (ℕ × ℕ)) (left : List (List (ℕ × ℕ))) (log other : ℕ) : Type 0 where
  pub waiting : ℕ × ℕ
  pub first : entry_at (log_at left log) 0 ≡ Some waiting
  pub place : ℕ
  pub holds : entry_at (log_at left other) place ≡ Some (waiting.0, next_number gone waiting.0)

-- from one log by way of these to the last, each by waiting for the next
abbrev pub Leads : (ℕ → ℕ → Type 0) → ℕ → List ℕ → ℕ → Type 0
Leads waits log [] last = log ≡ last
Leads waits log (next ∷ path) last = waits log next × Leads waits next path last

-- Where nothing more can go, each log with entries left waits for the log that holds the next number
-- of the bank of its next entry. From the lowest log with entries left this leads to the ring, which
-- goes round once, from its lowest log on; each knot has the place of its log's next entry.
pub record IsStuckRing (skeletons : List (List (ℕ × ℕ))) (ring : List Knot) : Type 0 where
  pub gone : List (ℕ × ℕ)
  pub left : List (List (ℕ × ℕ))
  pub has_gone : HasGone skeletons gone left
  pub nothing_goes : NothingGoes gone left
  pub start : ℕ
  pub some_left : log_at left start ≢ []
  pub none_below : (log : ℕ) → log < start → log_at left log ≡ []
  pub path : List ℕ
  pub led : Leads (WaitsFor gone left) start path (knot_at ring 0).log
  pub some_knot : 0 < length ring
  pub waits : (j : ℕ) → j < length ring → WaitsFor gone left (knot_at ring j).log
      (knot_at ring ((j + 1) % length ring)).log
  pub lowest : (j : ℕ) → 0 < j → j < length ring → (knot_at ring 0).log < (knot_at ring j).log
  pub places : (j : ℕ) → j < length ring → (knot_at ring j).at + length (log_at left (knot_at ring j).log)
      ≡ length (log_at skeletons (knot_at ring j).log)
