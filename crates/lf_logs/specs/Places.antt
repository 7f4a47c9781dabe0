-- Places of records, and the order that the numbers of a bank give.
use Rattle.std.specs.Prelude.{◌≡◌, ℕ, List, [], Option, slice_get, slice_index_or, IsSome, Some}
use Rattle.std.specs.List.{All, filter_map}
use Rattle.lf_rules.specs.declared.event.Record.{Record}
use Rattle.lf_rules.specs.Numbers.{IsMissing, IsDouble, IsFineBelow, IsNumbered}
use Rattle.lf_logs.specs.declared.order.Place.{Place}
use Rattle.lf_logs.specs.declared.order.NumberFault.{NumberFault}
use Rattle.lf_logs.specs.declared.order.NumberFault.TheVariants.{Missing, Double, NoMemory}

abbrev pub record_at : List (List Record) → Place → Option Record
record_at logs place = slice_get (slice_index_or logs place.log []) place.at

-- the place is that of a record of the bank with this number
pub record Names (logs : List (List Record)) (bank number : ℕ) (place : Place) : Type 0 where
  pub item : Record
  pub there : record_at logs place ≡ Some item
  pub of_bank : item.bank ≡ bank
  pub numbered : item.number ≡ number

-- the records at the places, in the order of the places
abbrev pub records_at : List (List Record) → List Place → List Record
records_at logs places = filter_map (record_at logs) places

-- Each place is that of a record, and together they are the bank's records, each once, in the order of their numbers.
pub record ArePlacesOfBank (logs : List (List Record)) (bank : ℕ) (places : List Place) : Type 0 where
  pub named : All (λ place. IsSome (record_at logs place)) places
  pub numbered : IsNumbered logs bank (records_at logs places)

-- The number is missing below a greater one, or occurs more than once, and no smaller number does.
-- Out of memory says nothing.
abbrev pub IsNumberFault : List ℕ → NumberFault → Type 0
IsNumberFault numbers (Missing k) = IsMissing numbers k × IsFineBelow numbers k
IsNumberFault numbers (Double k) = IsDouble numbers k × IsFineBelow numbers k
IsNumberFault numbers NoMemory = Unit {0}
