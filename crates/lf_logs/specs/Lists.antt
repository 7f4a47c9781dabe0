-- The logs of a list of records.
use Rattle.std.specs.Prelude.{◌≡◌, ℕ, ◌<◌, List, [], map, length, slice_index_or}
use Rattle.std.specs.List.{range_with_len}
use Rattle.lf_rules.specs.declared.event.Record.{Record}
use Rattle.lf_rules.specs.Run.{of_log, of_bank}
use Rattle.lf_rules.specs.Numbers.{IsNumbered}
pub use Rattle.lf_rules.specs.Lists.{lists_of}

-- the logs 0 to count - 1, each in the order of the list
abbrev pub logs_of : ℕ → List Record → List (List Record)
logs_of count rs = map (λ log. of_log log rs) (range_with_len 0 count)

-- the records of the banks 0 to count - 1, each in the order of the list
abbrev pub banks_of : ℕ → List Record → List (List Record)
banks_of count rs = map (λ bank. of_bank bank rs) (range_with_len 0 count)

-- there is a list for each bank: the bank's records of all logs, in the order of their numbers
pub record AreNumbered (logs : List (List Record)) (banks : ℕ) (lists : List (List Record)) : Type 0 where
  pub each_bank : length lists ≡ banks
  pub numbered : (bank : ℕ) → bank < banks → IsNumbered logs bank (slice_index_or lists bank [])
