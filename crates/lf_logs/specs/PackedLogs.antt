-- Records that are found by their places among all records of a trace.
use Rattle.std.specs.Prelude.{◌≡◌, List, map, slice_get, Some}
use Rattle.std.specs.List.{All, filter_map}
use Rattle.std.specs.Global.{Vec}
use Rattle.lf_rules.specs.declared.event.Record.{Record}
use Rattle.lf_logs.specs.declared.packed_logs.Spot.{Spot}

-- the records at these spots, in the order of the spots
abbrev pub found_at : List Record → Vec Spot → List Record
found_at rs spots = filter_map (λ (spot : Spot). slice_get rs spot.at) spots.items

-- the same for each log
abbrev pub lists_at : List Record → Vec (Vec Spot) → List (List Record)
lists_at rs logs = map (found_at rs) logs.items

-- a record stands at the spot's place, which names the spot's bank and has its number
pub record IsSpotOf (rs : List Record) (spot : Spot) : Type 0 where
  pub item : Record
  pub there : slice_get rs spot.at ≡ Some item
  pub of_bank : item.bank ≡ spot.bank
  pub numbered : item.number ≡ spot.number

-- one does so for each spot
abbrev pub AreSpotsOf : List Record → Vec (Vec Spot) → Type 0
AreSpotsOf rs logs = All (λ (spots : Vec Spot). All (IsSpotOf rs) spots.items) logs.items
