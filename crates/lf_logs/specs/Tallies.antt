-- What is counted of the numbers of a bank.
use Rattle.std.specs.Prelude.{◌≡◌, ℕ, ◌<◌, List, length, slice_index_or}
use Rattle.lf_rules.specs.declared.event.Record.{Record}
use Rattle.lf_rules.specs.Run.{of_bank}
use Rattle.lf_rules.specs.Numbers.{numbers_of, times}
use Rattle.lf_logs.specs.declared.order.Tally.{Tally}
use Rattle.lf_logs.specs.declared.order.NumberFault.{NumberFault}
use Rattle.lf_logs.specs.declared.order.NumberFault.TheVariants.{Missing, Double, NoMemory}
use Rattle.lf_logs.specs.Places.{Names}

-- so often do the records seen so far carry the number, and the last place is that of one of them
pub record IsTally (logs : List (List Record)) (bank : ℕ) (seen : List Record) (number : ℕ) (tally : Tally) : Type
    0 where
  pub counted : tally.times ≡ times number (numbers_of (of_bank bank seen))
  pub placed : 0 < tally.times → Names logs bank number tally.last

-- the tally at each place is that of the place's number
abbrev pub AreTallies : List (List Record) → ℕ → List Record → List Tally → Type 0
AreTallies logs bank seen tallies = (k : ℕ) (d : Tally) → k < length tallies →
    IsTally logs bank seen k (slice_index_or tallies k d)

-- the times before this place are all 1
abbrev pub AreOnceBelow : ℕ → List Tally → Type 0
AreOnceBelow n tallies = (k : ℕ) (d : Tally) → k < n → (slice_index_or tallies k d).times ≡ 1

-- the first times that are not 1
abbrev pub IsFirstFault : List Tally → NumberFault → Type 0
IsFirstFault tallies (Missing k) = (k < length tallies) × ((d : Tally) → (slice_index_or tallies k d).times ≡ 0) ×
    AreOnceBelow k tallies
IsFirstFault tallies (Double k) = (k < length tallies) × ((d : Tally) → 1 < (slice_index_or tallies k d).times) ×
    AreOnceBelow k tallies
IsFirstFault tallies NoMemory = ⊥
