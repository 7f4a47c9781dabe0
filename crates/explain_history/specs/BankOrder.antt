-- The records of a bank, in the order of their numbers.
use Rattle.std.specs.Prelude.{ℕ, List, [], ◌∷◌, ◌++◌, Option, option_to_list}
use Rattle.lf_rules.specs.declared.event.Record.{Record}
use Rattle.explain_history.specs.Places.{places_of_numbers}
use Rattle.explain_history.specs.Touching.{record_at}

-- the records at these places of a trace, one after another
abbrev pub records_at : List Record → List (Option ℕ) → List Record
records_at rs [] = []
records_at rs (at ∷ places) = option_to_list (record_at rs at) ++ records_at rs places

-- the bank's records with the numbers 0 to count - 1, in the order of their numbers
abbrev pub in_order : ℕ → List Record → ℕ → List Record
in_order bank rs count = records_at rs (places_of_numbers bank rs count)
